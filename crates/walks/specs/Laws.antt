-- What the laws say.
use Rattle.std.specs.Prelude.{ℕ, ◌≡◌, ◌≤◌, ◌+◌, ◌⊎◌, min, List}
use Rattle.walks.specs.Walks.{CostsValue, EvidenceValue, StartsAt, IsDevice, StepsAt, WalkCosts}
use Rattle.walks.specs.Walks.{IsLeastCost, IsBestWalk, IsCosts, ClaimsHold, AreLeastCosts, AreTraced}

abbrev pub ClaimsAreLeast : Type 0
ClaimsAreLeast = (C : CostsValue) (es : List EvidenceValue) → IsCosts C → ClaimsHold C es → AreLeastCosts C es

abbrev pub TracedClaimsHold : Type 0
TracedClaimsHold = (C : CostsValue) (es : List EvidenceValue) → IsCosts C → AreTraced C es → ClaimsHold C es

abbrev pub OneLeastCost : Type 0
OneLeastCost = (C : CostsValue) (d u v : ℕ) → IsLeastCost C d u → IsLeastCost C d v → u ≡ v

abbrev pub OneBestWalk : Type 0
OneBestWalk = (C : CostsValue) (d : ℕ) (w x : List ℕ) → IsCosts C → IsBestWalk C d w → IsBestWalk C d x → w ≡ x

abbrev pub BestWalksCostLeast : Type 0
BestWalksCostLeast = (C : CostsValue) (d v : ℕ) (w : List ℕ) → IsCosts C → IsBestWalk C d w → IsLeastCost C d v
    → WalkCosts C w d v

abbrev pub OneTrace : Type 0
OneTrace = (C : CostsValue) (es fs : List EvidenceValue) → IsCosts C → AreTraced C es → AreTraced C fs → es ≡ fs

abbrev pub SomeTrace : Type 0
SomeTrace = (C : CostsValue) → IsCosts C → (es : List EvidenceValue) × AreTraced C es

-- no value is above the start of its device or above what a step adds to the value of a neighbour, stopped at the
-- ceiling, and each is one of these
pub record IsFixed (C : CostsValue) (f : ℕ → ℕ) : Type 0 where
  pub start : (d s : ℕ) → StartsAt C d s → f d ≤ s
  pub step : (n d k : ℕ) → StepsAt C n d k → f d ≤ min (f n + k) C.ceiling
  pub made : (d s : ℕ) → StartsAt C d s → (f d ≡ s)
      ⊎ ((n : ℕ) × (k : ℕ) × StepsAt C n d k × (f d ≡ min (f n + k) C.ceiling))

abbrev pub FixedValuesAreLeast : Type 0
FixedValuesAreLeast = (C : CostsValue) (f : ℕ → ℕ) → IsCosts C → IsFixed C f
    → (d : ℕ) → IsDevice C d → IsLeastCost C d (f d)
