-- The costs of a network's steps.
use Rattle.std.specs.Prelude.{ℕ, ◌≡◌, ◌≤◌, List, [], ◌∷◌, ◌++◌, map}
use Rattle.std.specs.List.{All, Contains}
use Rattle.fc_values.specs.Fields.{Rises}
use Rattle.topology.specs.Networks.{Network, near, numbers}
use Rattle.walks.specs.declared.types.WalkStep.{WalkStep}
use Rattle.walks.specs.declared.types.Add.{Add}
use Rattle.walks.specs.declared.types.Add.TheVariants as add
use Rattle.walks.specs.Walks.{CostsValue, has}

-- what a step adds: the number given for the device to which it leads, or the weight of the link
pub data AddValue : Type 0 where
  AddEach : List (ℕ × ℕ) → AddValue
  AddWeights : AddValue

abbrev pub added_of : Add → AddValue
added_of (add.Each v) = AddEach v.items
added_of add.Weights = AddWeights

-- the cost of a step to a neighbour, by a link with its weight
abbrev pub added : AddValue → ℕ × ℕ → ℕ
added (AddEach xs) n = has xs n.0
added AddWeights n = n.1

abbrev pub step_to : AddValue → ℕ → ℕ × ℕ → WalkStep
step_to A d n = record { from = d; to = n.0; cost = added A n }

-- the steps from devices to their neighbours
abbrev pub steps_from : Network → AddValue → List ℕ → List WalkStep
steps_from N A [] = []
steps_from N A (d ∷ ds) = map (step_to A d) (near N d) ++ steps_from N A ds

-- these starts, and one step for each direction of each link, rising by both devices
abbrev pub gathered : ℕ → Network → List (ℕ × ℕ) → AddValue → CostsValue
gathered ceiling N start A = record { ceiling = ceiling; start = start; steps = steps_from N A (numbers N.devices) }

-- each device of a network has a number
abbrev pub AreOf : Network → List (ℕ × ℕ) → Type 0
AreOf N xs = map (λ (d : ℕ × ℕ). d.0) xs ≡ numbers N.devices

-- what steps add is 1 to the ceiling
abbrev pub AddFits : ℕ → Network → AddValue → Type 0
AddFits ceiling N (AddEach xs) = AreOf N xs × All (λ (d : ℕ × ℕ). (1 ≤ d.1) × (d.1 ≤ ceiling)) xs
AddFits ceiling N AddWeights = (d e w : ℕ) → Contains (near N d) (e, w) → (1 ≤ w) × (w ≤ ceiling)

-- the numbers given for devices stand by rising device
abbrev pub EachRises : AddValue → Type 0
EachRises (AddEach xs) = Rises (map (λ (d : ℕ × ℕ). d.0) xs)
EachRises AddWeights = Unit {0}
