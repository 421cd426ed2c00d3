use Rattle.changes.proofs.judging.unlink_fault.Given as goal

abbrev pub ghost-has_both : goal.ghost-has_both
ghost-has_both g a = g.told

abbrev pub ghost-are_partners : goal.ghost-are_partners
ghost-are_partners g a = g.told.all
