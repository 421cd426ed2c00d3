use Rattle.changes.proofs.judging.leave_fault.Given as goal

abbrev pub ghost-has : goal.ghost-has
ghost-has g a = g.told.all

abbrev pub ghost-is_alone : goal.ghost-is_alone
ghost-is_alone g a = g.told.all
