use Rattle.changes.proofs.judging.link_fault.Given as goal

abbrev pub ghost-has_both : goal.ghost-has_both
ghost-has_both g a = g.told

abbrev pub ghost-is_pair_too_many : goal.ghost-is_pair_too_many
ghost-is_pair_too_many g a = g.told
