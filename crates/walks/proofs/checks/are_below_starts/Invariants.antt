use Rattle.std.proofs.Common.{◌≤◌, ℕ}
use Rattle.std.specs.List.{AllWithin}
use Rattle.walks.specs.Walks.{claim_of, value_in}
use Rattle.walks.proofs.checks.are_below_starts.Given as goal

abbrev pub invariant-loop-one : goal.invariant-loop-one
invariant-loop-one l = AllWithin (λ (d : ℕ × ℕ). value_in (claim_of l.claim) d.0 ≤ d.1) l.one-items 0 l.one-index
