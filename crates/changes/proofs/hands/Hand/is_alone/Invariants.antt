use Rattle.changes.proofs.hands.Hand.is_alone.Given as goal

abbrev pub ghost-count : goal.ghost-count
ghost-count g a = g.lines
