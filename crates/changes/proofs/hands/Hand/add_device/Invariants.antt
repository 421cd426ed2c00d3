use Rattle.changes.proofs.hands.Hand.add_device.Given as goal

abbrev pub ghost-has : goal.ghost-has
ghost-has g a = g.told
