use Rattle.std.proofs.Common.{◌≡◌, ◌++◌, map, take, drop}
use Rattle.topology.specs.Nearby.{drop_near, items_of}
use Rattle.topology.proofs.edits.drop_from_each.Given as goal

abbrev pub invariant-loop-one : goal.invariant-loop-one
invariant-loop-one l = map items_of l.one-items ≡ map (λ ns. drop_near l.device ns) (take l.one-index (map items_of l.initial.one-items)) ++ drop l.one-index (map items_of l.initial.one-items)
