-- Least costs: there is one, at most the ceiling and the start, and no step from a neighbour undercuts it.
use Rattle.std.proofs.Common.{ℕ, ◌+◌, ◌≤◌, min, ◌∷◌, [], ◌++◌, arith}
use Rattle.walks.specs.Walks.{CostsValue, StartsAt, StepsAt, IsLeastCost, IsCosts}
use Rattle.walks.specs.Laws.{OneLeastCost}
use Rattle.walks.proofs.Goes.{start_most, cost_on, cost_alone}

pub one_least : OneLeastCost
one_least C d u v a b =
    let p = a.least b.walk.0 v b.walk.1 in
    let q = b.least a.walk.0 u a.walk.1 in
    omega arith

pub least_start : (C : CostsValue) → IsCosts C → (d v s : ℕ) → IsLeastCost C d v → StartsAt C d s → v ≤ s
least_start C co d v s a h = a.least (d ∷ []) s (cost_alone C d s h (start_most C co d s h))

pub least_step : (C : CostsValue) (n d u v k : ℕ) → IsLeastCost C n u → IsLeastCost C d v → StepsAt C n d k → v ≤ min (u + k) C.ceiling
least_step C n d u v k a b h = b.least (a.walk.0 ++ d ∷ []) (min (u + k) C.ceiling) (cost_on C a.walk.0 n u d k a.walk.1 h)
