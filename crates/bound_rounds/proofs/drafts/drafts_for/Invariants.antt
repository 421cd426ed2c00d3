use Rattle.std.proofs.Common.{◌≡◌, take}
use Rattle.bound_rounds.specs.Tables.{slot_counts}
use Rattle.bound_rounds.proofs.drafts.drafts_for.Given as goal

abbrev pub invariant-loop-bound : goal.invariant-loop-bound
invariant-loop-bound l = slot_counts l.drafts.items ≡ slot_counts (take l.bound-index l.bounds)
