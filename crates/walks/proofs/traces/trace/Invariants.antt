use Rattle.std.proofs.Common.{◌≡◌, ℕ, map, take}
use Rattle.std.specs.List.{All}
use Rattle.walks.specs.declared.types.Evidence.{Evidence}
use Rattle.walks.specs.Walks.{costs_of, IsLeastCost, IsBestWalk}
use Rattle.walks.proofs.traces.trace.Given as goal

abbrev pub invariant-loop-one : goal.invariant-loop-one
invariant-loop-one l = record {
  devices : map (λ (e : Evidence). e.device) l.traced.items ≡ map (λ (d : ℕ × ℕ). d.0) (take l.one-index l.one-items);
  least : All (λ (e : Evidence). IsLeastCost (costs_of l.costs) e.device e.value) l.traced.items;
  best : All (λ (e : Evidence). IsBestWalk (costs_of l.costs) e.device e.walk.items) l.traced.items;
}
