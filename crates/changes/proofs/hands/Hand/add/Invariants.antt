use Rattle.changes.proofs.hands.Hand.add.Given as goal

abbrev pub ghost-add_pair : goal.ghost-add_pair
ghost-add_pair g a = g.told

abbrev pub ghost-add_device : goal.ghost-add_device
ghost-add_device g a = g.told
