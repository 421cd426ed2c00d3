-- What the laws say.
use Rattle.std.specs.Prelude.{ℕ, true, ◌≡◌, ◌<◌, ◌≤◌, ◌+◌, List, length, min, slice_index_or}
use Rattle.fc_values.specs.Values.{LocalValue}
use Rattle.fc_values.specs.Fields.{AnyValue, rises}
use Rattle.fc_values.specs.Positions.{argument_nth}
use Rattle.fc_nodes.specs.Terms.{Evolution, Term}
use Rattle.interval_facts.specs.Ranges.{RangeValue}
use Rattle.growth_facts.specs.Leads.{lead}
use Rattle.growth_facts.specs.Growth.{Grows, growth_of}
use Rattle.growth_facts.specs.Beside.{Beside, Hears, IsPart}

-- Where an expression grows by c, and values a and b are heard of the variable at a device, the expression's entries v
-- and w there are greater by at least c, or reach the ceiling. A greater value never gives a lesser entry, and equal
-- values give equal entries. A pair counts as the integer that leads it.
pub record GrowsBy (ceiling c : ℕ) (a b v w : LocalValue) : Type 0 where
  pub first : min ceiling (lead a + c) ≤ lead v
  pub second : min ceiling (lead b + c) ≤ lead w
  pub raised : lead a ≤ lead b → lead v ≤ lead w
  pub same : a ≡ b → v ≡ w

-- the growth law: this holds at each of the devices ds over which device d sees fields, where the parts without the
-- variable have values in their ranges
abbrev pub GrowthLaw : Type 0
GrowthLaw = (ceiling d : ℕ) (ds : List ℕ) (e : Evolution) (x : ℕ) (rs : ℕ → RangeValue) (a b : ℕ → LocalValue)
    (p c : ℕ) (h : Term) (v w : AnyValue)
    → rises ds ≡ true → Beside ceiling d ds e x (Hears a b) (IsPart ceiling ds rs) p h v w
    → growth_of ceiling rs e x p h ≡ Grows c
    → (i : ℕ) → i < length ds
    → GrowsBy ceiling c (a (slice_index_or ds i 0)) (b (slice_index_or ds i 0)) (argument_nth i v) (argument_nth i w)
