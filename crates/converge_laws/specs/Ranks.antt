-- Ranks: how many different values of a potential lie below a device's own.
use Rattle.std.specs.Prelude.{ℕ, zero, suc, ◌≤◌, ◌<◌, ◌+◌, ◌-◌, List, length, map, filter}
use Rattle.fc_values.specs.Fields.{is_in}
use Rattle.fc_nodes.specs.Terms.{one_if}
use Rattle.topology.specs.Networks.{Network, numbers, Lives}
use Rattle.interval_facts.specs.Solutions.{Devices, In}

-- how many different numbers below p are among these
abbrev pub rank : List ℕ → ℕ → ℕ
rank ps zero = 0
rank ps (suc p) = rank ps p + one_if (is_in p ps)

-- the potentials of the devices of a set
abbrev pub potentials : Network → Devices → (ℕ → ℕ) → List ℕ
potentials N D potential = map potential (filter D (numbers N.devices))

-- the rank of a device among the devices of a set
abbrev pub rank_of : Network → Devices → (ℕ → ℕ) → ℕ → ℕ
rank_of N D potential d = rank (potentials N D potential) (potential d)

-- The rank of a device of a set: a device of the set with a lower potential has a lower rank, and the rank is below the
-- number of the network's devices and below the number of values that the potential may have.
pub record IsRank (N : Network) (D : Devices) (potential : ℕ → ℕ) (d : ℕ) : Type 0 where
  pub lower : (n : ℕ) → In D n → Lives N n → potential n < potential d
      → rank_of N D potential n < rank_of N D potential d
  pub few : rank_of N D potential d < length N.devices
  pub narrow : (least greatest : ℕ) → ((n : ℕ) → In D n → Lives N n → (least ≤ potential n) × (potential n ≤ greatest))
      → rank_of N D potential d ≤ greatest - least

abbrev pub RanksAreLow : Type 0
RanksAreLow = (N : Network) (D : Devices) (potential : ℕ → ℕ) (d : ℕ) → In D d → Lives N d → IsRank N D potential d
