use Rattle.changes.proofs.hands.Hand.add_pair.Given as goal

abbrev pub ghost-are_partners : goal.ghost-are_partners
ghost-are_partners g a = g.told
