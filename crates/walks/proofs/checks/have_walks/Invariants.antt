use Rattle.std.specs.List.{AllWithin}
use Rattle.walks.specs.declared.types.Evidence.{Evidence}
use Rattle.walks.specs.Walks.{costs_of, WalkCosts}
use Rattle.walks.proofs.checks.have_walks.Given as goal

abbrev pub invariant-loop-one : goal.invariant-loop-one
invariant-loop-one l = AllWithin (λ (e : Evidence). WalkCosts (costs_of l.costs) e.walk.items e.device e.value) l.claim 0 l.one-index
