-- How many rounds are looked at, which devices settle by then and to which values, and the settle time of a network.
use Rattle.std.specs.Prelude.{ℕ, ◌≡◌, ◌≤◌, ◌/◌, min, max, List, [], ◌∷◌, map, length, Option, Some, None, option_map}
use Rattle.std.specs.Option.{option_or}
use Rattle.fc_values.specs.Values.{LocalValue}
use Rattle.fc_nodes.specs.declared.verdicts.Verdict.{Verdict}
use Rattle.fc_nodes.specs.declared.verdicts.Verdict.TheVariants as verdict
use Rattle.fc_nodes.specs.Program.{Program, Unfolding, unfolding_of, IsProgram}
use Rattle.topology.specs.Networks.{Network, IsNetwork, Lives, numbers}
use Rattle.fragment_check.specs.Verdicts.{verdict_of}
use Rattle.converge_laws.specs.Stabilising.{HasOneSolution}
use Rattle.value_bounds.specs.BoundValues.{value_left}
use Rattle.settle_rounds.specs.declared.limits.TheConstants.{MOST_BOUND_FIRINGS}
use Rattle.envelopes.specs.Envelopes.{Envelope, ids}
use Rattle.envelopes.specs.Exactly.{exact_envelope}
use Rattle.bound_rounds.specs.Rounds.{BoundTable, rounds_within}
use Rattle.settle_rounds.specs.Rounds.{any_table, ReachedAt}
use Rattle.settle_rounds.specs.Settling.{settle_round}
use Rattle.settle_rounds.specs.Mail.{MailReachedAt}

-- the settle round of each device with its value then, if it has one
abbrev pub Settlings : Type 0
Settlings = ℕ → Option (ℕ × LocalValue)

-- at most so many rounds are looked at, for so many devices: all their firings are no more than the most, and with a
-- yes the rounds are no more than its own
abbrev pub settle_cap : Verdict → ℕ → ℕ
settle_cap (verdict.Yes rounds) n = min (MOST_BOUND_FIRINGS / n) rounds
settle_cap (verdict.No place reason) n = MOST_BOUND_FIRINGS / n

-- the settle round of a device from a start, up to a cap, with the value that is left then
abbrev pub settles_to : Unfolding → Envelope → BoundTable → ℕ → ℕ → Option (ℕ × LocalValue)
settles_to U E start cap d =
    option_map (λ k. (k, value_left (rounds_within U E start k d).value)) (settle_round U E start cap d)

-- those of all devices, by rising number
abbrev pub all_settle_to : Unfolding → Envelope → BoundTable → ℕ → List (Option (ℕ × LocalValue))
all_settle_to U E start cap = map (settles_to U E start cap) (ids E.devices)

-- those of a program on a network that stands still, up to its cap: from a start, and from any exports
abbrev pub cap_of : Unfolding → Network → ℕ
cap_of U N = settle_cap (verdict_of U (length N.devices)) (length N.devices)

abbrev pub settled_from : Unfolding → Network → BoundTable → Settlings
settled_from U N start d = settles_to U (exact_envelope N) start (cap_of U N) d

-- the settle rounds of devices with their values, counted from any exports
abbrev pub settled_of : Unfolding → Network → Settlings
settled_of U N d = settled_from U N (any_table U) d

-- the greatest settle round, where each device has one
abbrev pub greatest_round : List (Option (ℕ × LocalValue)) → Option ℕ
greatest_round [] = Some 0
greatest_round (None ∷ os) = None
greatest_round (Some s ∷ os) = option_map (max s.0) (greatest_round os)

abbrev pub rounds_of_yes : Verdict → Option ℕ
rounds_of_yes (verdict.Yes rounds) = Some rounds
rounds_of_yes (verdict.No place reason) = None

-- the settle time: the greatest settle round, where each device has one; else that of a yes; and none with a no
abbrev pub settle_time : Verdict → List (Option (ℕ × LocalValue)) → Option ℕ
settle_time v os = option_or (greatest_round os) (rounds_of_yes v)

-- the settle time of a network whose devices have these settle rounds
abbrev pub IsSettleTime : Unfolding → Network → Settlings → ℕ → Type 0
IsSettleTime U N settled R =
    settle_time (verdict_of U (length N.devices)) (map settled (numbers N.devices)) ≡ Some R

-- ---- what settle rounds and settle times promise, where so many rounds lead a device to a value in some sense

abbrev pub Leading : Type 1
Leading = ℕ → ℕ → LocalValue → Type 0

-- a device's settle round, and any more rounds, lead it to its value
abbrev pub RoundsLead : Leading → Network → Settlings → Type 0
RoundsLead Leads N settled = (d k : ℕ) (v : LocalValue) → Lives N d → settled d ≡ Some (k, v)
    → (m : ℕ) → k ≤ m → Leads m d v

-- with a yes, that is the value of the one field
pub record ValuesSolve (U : Unfolding) (N : Network) (settled : Settlings) : Type 0 where
  pub one : HasOneSolution U N
  pub values : (d k : ℕ) (v : LocalValue) → Lives N d → settled d ≡ Some (k, v) → v ≡ one.field d

-- the settle time leads each device to the value of its settle round; where one has none, there is a yes for so many
-- rounds, and they lead it to the value of the one field
pub record TimeLeads (Leads : Leading) (U : Unfolding) (N : Network) (settled : Settlings) (R : ℕ) : Type 0 where
  pub known : (d k : ℕ) (v : LocalValue) → Lives N d → settled d ≡ Some (k, v) → Leads R d v
  pub only_yes : (d : ℕ) → Lives N d → settled d ≡ None → verdict_of U (length N.devices) ≡ verdict.Yes R
  pub solved : (d : ℕ) → Lives N d → settled d ≡ None → (one : HasOneSolution U N) × Leads R d (one.field d)

-- it is no more than the rounds of a yes
abbrev pub TimeIsLow : Unfolding → Network → ℕ → Type 0
TimeIsLow U N R = (K : ℕ) → verdict_of U (length N.devices) ≡ verdict.Yes K → R ≤ K

-- what settle rounds and the settle time promise from every start, over firings and over message links
pub record SettlesWell (U : Unfolding) (N : Network) : Type 0 where
  pub rounds : RoundsLead (ReachedAt U N) N (settled_of U N)
  pub mail_rounds : RoundsLead (MailReachedAt U N) N (settled_of U N)
  pub solves : (K : ℕ) → verdict_of U (length N.devices) ≡ verdict.Yes K → ValuesSolve U N (settled_of U N)
  pub time : (R : ℕ) → IsSettleTime U N (settled_of U N) R → TimeLeads (ReachedAt U N) U N (settled_of U N) R
  pub mail_time : (R : ℕ) → IsSettleTime U N (settled_of U N) R → TimeLeads (MailReachedAt U N) U N (settled_of U N) R
  pub low : (R : ℕ) → IsSettleTime U N (settled_of U N) R → TimeIsLow U N R

abbrev pub SettleTimesHold : Type 0
SettleTimesHold =
    (P : Program) (N : Network) → IsProgram P → IsNetwork N → N.declared ≡ P.declared → SettlesWell (unfolding_of P) N
