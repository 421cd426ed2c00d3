use Rattle.std.proofs.Common.{get_or}
use Rattle.std.specs.List.{AllWithin}
use Rattle.walks.specs.declared.types.WalkStep.{WalkStep}
use Rattle.walks.specs.Walks.{costs_of, LeadsTo}
use Rattle.walks.proofs.traces.smallest_before.Given as goal

abbrev pub invariant-loop-step : goal.invariant-loop-step
invariant-loop-step l = AllWithin (λ (s : WalkStep). LeadsTo (costs_of l.costs) s.to l.device (get_or l.values l.device 0) → ⊥) l.step-items 0 l.step-index
