use Rattle.changes.proofs.judging.set_fault.Given as goal

abbrev pub ghost-has : goal.ghost-has
ghost-has g a = g.told.all
