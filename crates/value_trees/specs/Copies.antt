-- Which copies fit a program.
use Rattle.std.specs.Prelude.{ℕ, ◌≢◌, ◌≤◌, List, [], ◌∷◌, map, length, Option, Some, None}
use Rattle.fc_values.specs.Inputs.{InputsFit}
use Rattle.fc_values.specs.Fields.{Rises}
use Rattle.fc_values.specs.declared.limits.TheConstants.{MOST_LINKS}
use Rattle.fc_values.specs.Trees.{NearCopy, Copy}
use Rattle.fc_nodes.specs.Program.{Unfolding}
use Rattle.fc_nodes.specs.Flat.{IsWellTyped}

abbrev pub WhereSome : {A : Type 0} → (A → Type 0) → Option A → Type 0
WhereSome P None = Unit {0}
WhereSome P (Some x) = P x

-- each neighbour: another device, with a weight in the range and a well-typed export
pub record NearFits (U : Unfolding) (device : ℕ) (n : NearCopy) : Type 0 where
  pub other : n.device ≢ device
  pub above : U.declared.least ≤ n.weight
  pub below : n.weight ≤ U.declared.greatest
  pub export : IsWellTyped U n.export

abbrev pub AllNearFit : Unfolding → ℕ → List NearCopy → Type 0
AllNearFit U device [] = Unit {0}
AllNearFit U device (n ∷ ns) = NearFits U device n × AllNearFit U device ns

abbrev pub near_devices : List NearCopy → List ℕ
near_devices ns = map (λ (n : NearCopy). n.device) ns

-- a copy that a firing of a program may read
pub record FitsCopy (U : Unfolding) (s : Copy) : Type 0 where
  pub inputs : InputsFit U.declared.inputs s.inputs
  pub own : WhereSome (IsWellTyped U) s.own
  pub near : AllNearFit U s.device s.near
  pub rising : Rises (near_devices s.near)
  pub few : length s.near ≤ MOST_LINKS
