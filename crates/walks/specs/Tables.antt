-- Tables of values by the numbers of devices, while walks are sought.
use Rattle.std.specs.Prelude.{◌≡◌, ◌≢◌, ◌≤◌, ◌<◌, ◌+◌, ◌*◌, ◌⊎◌}
use Rattle.std.specs.Prelude.{ℕ, min, sum, slice_index, slice_set, length, IsPermutation, List, ◌∷◌}
use Rattle.std.specs.List.{All, Contains}
use Rattle.std.specs.declared.cmp.Reverse.{Reverse}
use Rattle.walks.specs.declared.types.WalkStep.{WalkStep}
use Rattle.walks.specs.Walks.{CostsValue, StartsAt, IsDevice, WalkCosts, IsLeastCost, LeadsTo}

-- each device has the cost of a walk to it, at most its start
pub record AreCosts (C : CostsValue) (values : List ℕ) : Type 0 where
  pub within : (d : ℕ) → IsDevice C d → d < length values
  pub walk : (d : ℕ) → IsDevice C d → (w : List ℕ) × WalkCosts C w d (slice_index values d)
  pub start : (d s : ℕ) → StartsAt C d s → slice_index values d ≤ s

-- no step lowers the value of the device to which it leads
abbrev pub IsSettled : CostsValue → List ℕ → WalkStep → Type 0
IsSettled C values s = slice_index values s.to ≤ min (slice_index values s.from + s.cost) C.ceiling

-- each device has its start
abbrev pub HaveStarts : CostsValue → List ℕ → Type 0
HaveStarts C values = All (λ (d : ℕ × ℕ). (d.0 < length values) × (slice_index values d.0 ≡ d.1)) C.start

-- the devices that wait for their steps to be taken, with their values
abbrev pub Queue : Type 0
Queue = List (Reverse (ℕ × ℕ))

-- each device waits with its start
abbrev pub StartsWait : CostsValue → Queue → Type 0
StartsWait C waiting = All (λ (d : ℕ × ℕ). Contains waiting (record { 0 = (d.1, d.0) })) C.start

-- a device waits with its value
abbrev pub Waits : List ℕ → Queue → ℕ → Type 0
Waits values waiting d = Contains waiting (record { 0 = (slice_index values d, d) })

-- each step is settled, or its device waits
abbrev pub IsCovered : CostsValue → List ℕ → Queue → WalkStep → Type 0
IsCovered C values waiting s = IsSettled C values s ⊎ Waits values waiting s.from

abbrev pub AreCovered : CostsValue → List ℕ → Queue → Type 0
AreCovered C values waiting = All (IsCovered C values waiting) C.steps

-- so is each, but for the steps from one device
abbrev pub AreCoveredBut : CostsValue → List ℕ → Queue → ℕ → Type 0
AreCoveredBut C values waiting d = All (λ (s : WalkStep). IsCovered C values waiting s ⊎ (s.from ≡ d)) C.steps

abbrev pub AreDevices : CostsValue → Queue → Type 0
AreDevices C waiting = All (λ (r : Reverse (ℕ × ℕ)). IsDevice C r.0.1) waiting

-- a measure that falls with each step that lowers a value, and with each device that no longer waits
abbrev pub left : List ℕ → Queue → ℕ
left values waiting = 2 * sum values + length waiting

-- what a step makes of the values and of the devices that wait: it lowers the value of the device to which it leads,
-- which then waits, or it is settled
pub data IsTaken (C : CostsValue) (s : WalkStep) (values : List ℕ) (waiting : Queue) (after : List ℕ) (wait : Queue)
    : Type 0 where
  settled : IsSettled C values s → after ≡ values → wait ≡ waiting → IsTaken C s values waiting after wait
  lowered : (v : ℕ) → v ≡ min (slice_index values s.from + s.cost) C.ceiling → v < slice_index values s.to
      → after ≡ slice_set values s.to v → IsPermutation (record { 0 = (v, s.to) } ∷ waiting) wait
      → IsTaken C s values waiting after wait

-- each device has its least cost
abbrev pub AreLeast : CostsValue → List ℕ → Type 0
AreLeast C values = (d : ℕ) → IsDevice C d → (d < length values) × IsLeastCost C d (slice_index values d)

-- a device before another on the best walk to that one, or the device itself where its best walk is itself alone
pub data IsParent (C : CostsValue) (d : ℕ) : ℕ → Type 0 where
  itself : (s : ℕ) → StartsAt C d s → IsLeastCost C d s → IsParent C d d
  neighbour : (s v n : ℕ) → StartsAt C d s → IsLeastCost C d v → s ≢ v → LeadsTo C n d v
      → ((m : ℕ) → LeadsTo C m d v → n ≤ m) → IsParent C d n

abbrev pub AreParents : CostsValue → List ℕ → Type 0
AreParents C parents = (d : ℕ) → IsDevice C d → (d < length parents) × IsParent C d (slice_index parents d)
