-- Walks between devices and their costs, least costs, and best walks.
use Rattle.std.specs.Prelude.{ℕ, ◌≡◌, ◌≢◌, ◌≤◌, ◌<◌, ◌+◌, ◌⊎◌, min, List, [], ◌∷◌, ◌++◌, map, nat_eq, if◌then◌else◌}
use Rattle.std.specs.List.{All, AllPairs, Contains}
use Rattle.fc_values.specs.Fields.{Rises}
use Rattle.walks.specs.declared.types.WalkStep.{WalkStep}
use Rattle.walks.specs.declared.types.Costs.{Costs}
use Rattle.walks.specs.declared.types.Evidence.{Evidence}

-- the ceiling, at what cost a walk starts at each device, and the steps with their costs
pub record CostsValue : Type 0 where
  pub ceiling : ℕ
  pub start : List (ℕ × ℕ)
  pub steps : List WalkStep

abbrev pub costs_of : Costs → CostsValue
costs_of c = record { ceiling = c.ceiling; start = c.start.items; steps = c.steps.items }

-- a device, its value, and a walk to it
pub record EvidenceValue : Type 0 where
  pub device : ℕ
  pub value : ℕ
  pub walk : List ℕ

abbrev pub evidence_of : Evidence → EvidenceValue
evidence_of e = record { device = e.device; value = e.value; walk = e.walk.items }

abbrev pub claim_of : List Evidence → List EvidenceValue
claim_of es = map evidence_of es

-- a walk starts at device d at cost s
abbrev pub StartsAt : CostsValue → ℕ → ℕ → Type 0
StartsAt C d s = Contains C.start (d, s)

-- d is one of the devices
abbrev pub IsDevice : CostsValue → ℕ → Type 0
IsDevice C d = (s : ℕ) × StartsAt C d s

-- the step from n to d, which are linked, costs k
abbrev pub StepsAt : CostsValue → ℕ → ℕ → ℕ → Type 0
StepsAt C n d k = Contains C.steps (record { from = n; to = d; cost = k })

-- the number that pairs give for a device; 0 where they give none
abbrev pub has : List (ℕ × ℕ) → ℕ → ℕ
has [] d = 0
has (x ∷ xs) d = if nat_eq x.0 d then x.1 else has xs d

-- ---- walks

-- from device d, where the sum is c, a walk goes on along w to device e, where the sum is t
abbrev pub Goes : CostsValue → ℕ → ℕ → List ℕ → ℕ → ℕ → Type 0
Goes C d c [] e t = (d ≡ e) × (c ≡ t)
Goes C d c (n ∷ w) e t = (k : ℕ) × StepsAt C d n k × Goes C n (c + k) w e t

-- a walk: at least one device, each linked to the next. It ends in its last device, e, and t is the start of its first
-- device plus the sum of its steps
abbrev pub IsWalk : CostsValue → List ℕ → ℕ → ℕ → Type 0
IsWalk C [] e t = ⊥
IsWalk C (d ∷ w) e t = (s : ℕ) × StartsAt C d s × Goes C d s w e t

-- a walk that ends in e costs v: its sum, stopped at the ceiling
abbrev pub WalkCosts : CostsValue → List ℕ → ℕ → ℕ → Type 0
WalkCosts C w e v = (t : ℕ) × IsWalk C w e t × (min t C.ceiling ≡ v)

-- v is the least of the costs of all walks that end in d
pub record IsLeastCost (C : CostsValue) (d v : ℕ) : Type 0 where
  pub walk : (w : List ℕ) × WalkCosts C w d v
  pub least : (w : List ℕ) (u : ℕ) → WalkCosts C w d u → v ≤ u

-- n is a neighbour of d whose least cost and the step to d, stopped at the ceiling, make up v
pub record LeadsTo (C : CostsValue) (n d v : ℕ) : Type 0 where
  pub value : ℕ
  pub cost : ℕ
  pub least : IsLeastCost C n value
  pub step : StepsAt C n d cost
  pub sum : min (value + cost) C.ceiling ≡ v

-- the best walk to d: d alone where its start is its least cost, and else the best walk to the smallest neighbour from
-- which the least cost of d is made up, followed by d
pub data IsBestWalk (C : CostsValue) : ℕ → List ℕ → Type 0 where
  alone : (d s : ℕ) → StartsAt C d s → IsLeastCost C d s → IsBestWalk C d (d ∷ [])
  onward : (d s v n : ℕ) (w : List ℕ) → StartsAt C d s → IsLeastCost C d v → s ≢ v
      → LeadsTo C n d v → ((m : ℕ) → LeadsTo C m d v → n ≤ m) → IsBestWalk C n w → IsBestWalk C d (w ++ d ∷ [])

-- ---- the costs of a network

-- a step comes before another: by the device from which it leads, then by the other
abbrev pub IsBefore : WalkStep → WalkStep → Type 0
IsBefore s t = (s.from < t.from) ⊎ ((s.from ≡ t.from) × (s.to < t.to))

-- a step is between devices, and costs 1 to the ceiling
pub record StepFits (C : CostsValue) (s : WalkStep) : Type 0 where
  pub from : IsDevice C s.from
  pub to : IsDevice C s.to
  pub some : 1 ≤ s.cost
  pub most : s.cost ≤ C.ceiling

-- devices rise, no start is above the ceiling, and there is one step for each direction of a link, rising
pub record IsCosts (C : CostsValue) : Type 0 where
  pub rising : Rises (map (λ (d : ℕ × ℕ). d.0) C.start)
  pub starts : All (λ (d : ℕ × ℕ). d.1 ≤ C.ceiling) C.start
  pub order : AllPairs IsBefore C.steps
  pub steps : All (StepFits C) C.steps
  pub both_ways : (n d k : ℕ) → StepsAt C n d k → (j : ℕ) × StepsAt C d n j

-- ---- evidence

-- the value that a claim has for a device; 0 where it has none
abbrev pub with_value : EvidenceValue → ℕ × ℕ
with_value e = (e.device, e.value)

abbrev pub values_in : List EvidenceValue → List (ℕ × ℕ)
values_in es = map with_value es

abbrev pub value_in : List EvidenceValue → ℕ → ℕ
value_in es d = has (values_in es) d

-- the walk is one to the device that costs the value
abbrev pub HasWalk : CostsValue → Evidence → Type 0
HasWalk C e = WalkCosts C e.walk.items e.device e.value

-- a claim has the devices for which a start is given, in the same order
abbrev pub HasDevices : CostsValue → List EvidenceValue → Type 0
HasDevices C es = map (λ (e : EvidenceValue). e.device) es ≡ map (λ (d : ℕ × ℕ). d.0) C.start

-- each walk is one to its device that costs the value
abbrev pub HaveWalks : CostsValue → List EvidenceValue → Type 0
HaveWalks C es = All (λ (e : EvidenceValue). WalkCosts C e.walk e.device e.value) es

-- no value is above the start of its device
abbrev pub AreBelowStarts : CostsValue → List EvidenceValue → Type 0
AreBelowStarts C es = All (λ (d : ℕ × ℕ). value_in es d.0 ≤ d.1) C.start

-- no value is above what a step adds to the value of a neighbour, stopped at the ceiling
abbrev pub AreSettled : CostsValue → List EvidenceValue → Type 0
AreSettled C es = All (λ (s : WalkStep). value_in es s.to ≤ min (value_in es s.from + s.cost) C.ceiling) C.steps

-- a claim that can be checked step by step
pub record ClaimsHold (C : CostsValue) (es : List EvidenceValue) : Type 0 where
  pub devices : HasDevices C es
  pub walks : HaveWalks C es
  pub starts : AreBelowStarts C es
  pub steps : AreSettled C es

-- each value is the least cost of its device
abbrev pub AreLeastCosts : CostsValue → List EvidenceValue → Type 0
AreLeastCosts C es = All (λ (e : EvidenceValue). IsLeastCost C e.device e.value) es

-- for each device, rising, its least cost and its best walk
pub record AreTraced (C : CostsValue) (es : List EvidenceValue) : Type 0 where
  pub devices : HasDevices C es
  pub least : AreLeastCosts C es
  pub best : All (λ (e : EvidenceValue). IsBestWalk C e.device e.walk) es
