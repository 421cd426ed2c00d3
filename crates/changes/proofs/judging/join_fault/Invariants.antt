use Rattle.changes.proofs.judging.join_fault.Given as goal

abbrev pub ghost-has : goal.ghost-has
ghost-has g a = g.told.before

abbrev pub ghost-is_full : goal.ghost-is_full
ghost-is_full g a = g.told.before
