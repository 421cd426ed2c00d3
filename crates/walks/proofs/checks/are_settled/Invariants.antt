use Rattle.std.proofs.Common.{◌≤◌, ◌+◌, min}
use Rattle.std.specs.List.{AllWithin}
use Rattle.walks.specs.declared.types.WalkStep.{WalkStep}
use Rattle.walks.specs.Walks.{claim_of, value_in}
use Rattle.walks.proofs.checks.are_settled.Given as goal

abbrev pub invariant-loop-step : goal.invariant-loop-step
invariant-loop-step l = AllWithin (λ (s : WalkStep). value_in (claim_of l.claim) s.to ≤ min (value_in (claim_of l.claim) s.from + s.cost) l.costs.ceiling) l.step-items 0 l.step-index
