use Rattle.changes.proofs.judging.is_pair_too_many.Given as goal

abbrev pub ghost-are_partners : goal.ghost-are_partners
ghost-are_partners g a = g.told.before

abbrev pub ghost-is_crowded : goal.ghost-is_crowded
ghost-is_crowded g a = g.told.before
