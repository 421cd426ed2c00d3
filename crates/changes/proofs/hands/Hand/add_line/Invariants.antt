use Rattle.changes.proofs.hands.Hand.add_line.Given as goal

abbrev pub ghost-add : goal.ghost-add
ghost-add g a = g.told
