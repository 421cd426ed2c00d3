-- Tables of bounds over an envelope, and rounds over them.
use Rattle.std.specs.Prelude.{ℕ, Bool, zero, suc, true, false, ◌≡◌, ◌⊎◌, ◌&&◌, ◌||◌, [], map, nat_eq, Some}
use Rattle.fc_values.specs.Fields.{is_in}
use Rattle.fc_nodes.specs.Program.{Unfolding}
use Rattle.topology.specs.Networks.{Network}
use Rattle.value_bounds.specs.BoundValues.{BoundValue}
use Rattle.bound_firing.specs.Exports.{ExportBound, bound_export}
use Rattle.bound_firing.specs.Seats.{NearSeat, Seats}
use Rattle.bound_firing.specs.Firing.{BoundSituation, bound_of}
use Rattle.export_bounds.specs.Exports.{either_export}
use Rattle.envelopes.specs.Envelopes.{MaybeLink, Envelope, MayLive, surely_lives, bounds_in, maybe_near, near_ids}
use Rattle.envelopes.specs.Exactly.{exact_envelope}
use Rattle.bound_rounds.specs.declared.rounds.RoundKind.{RoundKind}
use Rattle.bound_rounds.specs.declared.rounds.RoundKind.TheVariants as kind

-- a bound for each device
abbrev pub BoundTable : Type 0
BoundTable = ℕ → ExportBound

-- the seats of a device's neighbours by a table of bounds: for sure where the link is and the export is there for sure
abbrev pub seat_in : BoundTable → ℕ × MaybeLink → NearSeat
seat_in table n = record {
  device = n.0;
  least = n.1.least;
  greatest = n.1.greatest;
  sure = n.1.sure && (table n.0).sure;
  tree = (table n.0).tree;
}

abbrev pub seats_in : BoundTable → Envelope → ℕ → Seats
seats_in table E d =
    record { own = Some ((table d).sure, (table d).tree); near = map (seat_in table) (maybe_near d E.links) }

abbrev pub situation_in : Unfolding → Envelope → ℕ → BoundSituation
situation_in U E d = record {
  device = d;
  ceiling = U.declared.ceiling;
  least = U.declared.least;
  inputs = bounds_in d E.devices;
}

-- the firing of a device over a table of bounds: there for sure where the device is
abbrev pub fired_within : Unfolding → Envelope → BoundTable → BoundTable
fired_within U E table d =
    bound_export (surely_lives E d) (bound_of (situation_in U E d) 0 U.main [] (seats_in table E d))

-- what a round makes of a table: a device's firing, and where the table grows, what was there before as well
abbrev pub next_within : RoundKind → Unfolding → Envelope → BoundTable → BoundTable
next_within kind.Firing U E table d = fired_within U E table d
next_within kind.Growing U E table d = either_export U (table d) (fired_within U E table d)

-- the table after so many rounds
abbrev pub table_within : RoundKind → Unfolding → Envelope → BoundTable → ℕ → BoundTable
table_within k U E start zero d = start d
table_within k U E start (suc j) d = next_within k U E (table_within k U E start j) d

abbrev pub rounds_within : Unfolding → Envelope → BoundTable → ℕ → BoundTable
rounds_within U E start j d = table_within kind.Firing U E start j d

abbrev pub grown_within : Unfolding → Envelope → BoundTable → ℕ → BoundTable
grown_within U E start i d = table_within kind.Growing U E start i d

-- the bound of a device's value in the table after r rounds, where the export is there for sure or the device may be
-- away
pub record HasBound (U : Unfolding) (E : Envelope) (start : BoundTable) (r d : ℕ) (b : BoundValue) : Type 0 where
  pub is : (rounds_within U E start r d).value ≡ b
  pub there : ((rounds_within U E start r d).sure ≡ true) ⊎ (surely_lives E d ≡ false)

-- a round changes no bound of a device that may be there
abbrev pub IsFixedWithin : RoundKind → Unfolding → Envelope → BoundTable → Type 0
IsFixedWithin k U E table = (d : ℕ) → MayLive E d → next_within k U E table d ≡ table d

-- the table doesn't grow any more
abbrev pub IsFullWithin : Unfolding → Envelope → BoundTable → Type 0
IsFullWithin U E table = IsFixedWithin kind.Growing U E table

-- rounds on a network that stands still: nothing else is possible
abbrev pub rounds_from : Unfolding → Network → BoundTable → ℕ → BoundTable
rounds_from U N start j d = rounds_within U (exact_envelope N) start j d

-- ---- what a round looks at

-- a device is another one or may be a neighbour of it
abbrev pub is_close : Envelope → ℕ → ℕ → Bool
is_close E d e = nat_eq e d || is_in e (near_ids (maybe_near d E.links))

-- what a round makes of a device depends on its bound and those of its neighbours alone
abbrev pub RoundsAreLocal : Type 0
RoundsAreLocal = (k : RoundKind) (U : Unfolding) (E : Envelope) (f g : BoundTable) (d : ℕ)
    → ((e : ℕ) → is_close E d e ≡ true → f e ≡ g e) → next_within k U E f d ≡ next_within k U E g d
