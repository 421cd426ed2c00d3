use Rattle.std.proofs.Common.{◌≡◌, length}
use Rattle.bound_rounds.proofs.drafts.draft_with.Given as goal

abbrev pub invariant-loop : goal.invariant-loop
invariant-loop l = length l.slots.items ≡ l.counter
