-- What bounds of exports in code stand for, and what a firing over them needs.
use Rattle.std.specs.Prelude.{ℕ, ◌≡◌, List, length, Option, Some, None}
use Rattle.std.specs.List.{All}
use Rattle.fc_values.specs.Types.{Declarations}
use Rattle.value_bounds.specs.BoundValues.{BoundValue}
use Rattle.fc_nodes.specs.Program.{Unfolding}
use Rattle.value_bounds.specs.declared.bounds.LocalBound.{LocalBound}
use Rattle.value_bounds.specs.References.{local_bound_in, local_bounds_in}
use Rattle.bound_firing.specs.declared.seats.OwnSeat.{OwnSeat}
use Rattle.bound_firing.specs.declared.seats.NearSeat.{NearSeat}
use Rattle.bound_firing.specs.declared.seats.Seats.{Seats}
use Rattle.bound_firing.specs.declared.firing.ExportBound.{ExportBound as FlatBound}
use Rattle.bound_firing.specs.BoundTrees.{bound_tree_at}
use Rattle.bound_firing.specs.Firing.{BoundSituation}
use Rattle.bound_firing.specs.Exports.{ExportBound}

abbrev pub export_bound_in : Unfolding → FlatBound → ExportBound
export_bound_in U e = record {
  value = local_bound_in e.value;
  tree = bound_tree_at U.main 0 (local_bounds_in e.slots.items);
  sure = e.sure;
}

-- the situation of a device with some bounds of inputs
abbrev pub situation_for : Declarations → ℕ → List BoundValue → BoundSituation
situation_for D device inputs =
    record { device = device; ceiling = D.ceiling; least = D.least; inputs = inputs }

-- the slots of all seats, and those of an export that is written, are so many
abbrev pub OwnIsLong : ℕ → Option OwnSeat → Type 0
OwnIsLong n None = Unit {0}
OwnIsLong n (Some s) = length s.slots.now ≡ n

pub record SlotsAreLong (n : ℕ) (seats : Seats) (written : List LocalBound) : Type 0 where
  pub own : OwnIsLong n seats.own
  pub near : All (λ (s : NearSeat). length s.slots.now ≡ n) seats.near.items
  pub target : length written ≡ n
