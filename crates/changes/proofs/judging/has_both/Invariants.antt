use Rattle.changes.proofs.judging.has_both.Given as goal

abbrev pub ghost-has : goal.ghost-has
ghost-has g a = g.told.all
