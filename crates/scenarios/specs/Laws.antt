-- What is said of each ring, for every number of devices from 3 to 512.
use Rattle.std.specs.Prelude.{ℕ, ◌≡◌, ◌<◌, ◌≤◌, ◌+◌, ◌-◌, ◌*◌, [], ◌∷◌, length}
use Rattle.fc_syntax.specs.Printable.{IsPrintable}
use Rattle.fc_types.specs.Before.{declared_by}
use Rattle.fc_types.specs.Typing.{IsTyped}
use Rattle.fc_values.specs.declared.limits.TheConstants.{MOST_NODES, MOST_SCENARIO_DEVICES}
use Rattle.unfold.specs.Nodes.{Nodes}
use Rattle.unfold.specs.Unfolding.{main_term}
use Rattle.topology.specs.Networks.{IsNetwork, near}
use Rattle.fc_nodes.specs.declared.verdicts.Verdict.TheVariants as verdict
use Rattle.fragment_check.specs.Verdicts.{verdict_of}
use Rattle.scenarios.specs.Rings.{ring, ring_declared, ring_program}
use Rattle.scenarios.specs.RingTerms.{ring_main, ring_unfolding}

-- the program of a ring is typed, can be printed, and unfolds to few nodes
pub record IsRingProgram (count : ℕ) : Type 0 where
  pub printable : IsPrintable (ring_program count)
  pub typed : IsTyped (ring_program count)
  pub declared : declared_by (ring_program count) ≡ ring_declared count
  pub main : main_term (ring_program count) ≡ ring_main count
  pub small : length (Nodes (ring_program count)) ≤ MOST_NODES

abbrev pub RingsAreTyped : Type 0
RingsAreTyped = (count : ℕ) → 3 ≤ count → count ≤ MOST_SCENARIO_DEVICES → IsRingProgram count

-- A ring is a network of so many devices, with the declarations of its program. The neighbours of a device are the one
-- before it and the one behind it, where the first comes behind the last
pub record IsRingNetwork (number count : ℕ) : Type 0 where
  pub network : IsNetwork (ring number count)
  pub devices : length (ring number count).devices ≡ count
  pub declared : (ring number count).declared ≡ (ring_unfolding count).declared
  pub first : near (ring number count) 0 ≡ (1, 1) ∷ (count - 1, 1) ∷ []
  pub inner : (d : ℕ) → 0 < d → d + 1 < count → near (ring number count) d ≡ (d - 1, 1) ∷ (d + 1, 1) ∷ []
  pub last : near (ring number count) (count - 1) ≡ (0, 1) ∷ (count - 2, 1) ∷ []

abbrev pub RingsAreNetworks : Type 0
RingsAreNetworks = (number count : ℕ) → 3 ≤ count → count ≤ MOST_SCENARIO_DEVICES → IsRingNetwork number count

-- The verdict on the program of a ring is a yes for two rounds and two more for each device of the ring. It is so for
-- each number of devices that the verdict is asked for
abbrev pub RingsStabilise : Type 0
RingsStabilise =
    (count devices : ℕ) → 3 ≤ count → count ≤ MOST_SCENARIO_DEVICES
    → verdict_of (ring_unfolding count) devices ≡ verdict.Yes (2 + 2 * count)
