use Rattle.std.proofs.Common.{◌≡◌}
use Rattle.std.specs.List.{AllWithin}
use Rattle.walks.specs.declared.types.WalkStep.{WalkStep}
use Rattle.walks.proofs.lookups.step_cost.Given as goal

abbrev pub invariant-loop-step : goal.invariant-loop-step
invariant-loop-step l = AllWithin (λ (s : WalkStep). s.to ≡ l.to → ⊥) l.step-items 0 l.step-index
