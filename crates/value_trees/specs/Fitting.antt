-- The neighbours of a copy in code, one after another.
use Rattle.std.specs.Prelude.{ℕ, ◌≢◌, ◌<◌, ◌≤◌, List, [], ◌∷◌}
use Rattle.fc_nodes.specs.Program.{Unfolding}
use Rattle.value_trees.specs.declared.copies.Near.{Near}
use Rattle.value_trees.specs.Snaps.{IsExportOf}

-- another device, with a weight in the range and a well-typed export
pub record IsNear (U : Unfolding) (device : ℕ) (n : Near) : Type 0 where
  pub other : n.device ≢ device
  pub above : U.declared.least ≤ n.weight
  pub below : n.weight ≤ U.declared.greatest
  pub export : IsExportOf U n.export

abbrev pub ComesBefore : ℕ → List Near → Type 0
ComesBefore d [] = Unit {0}
ComesBefore d (n ∷ ns) = d < n.device

abbrev pub NearRises : Unfolding → ℕ → List Near → Type 0
NearRises U device [] = Unit {0}
NearRises U device (n ∷ ns) = IsNear U device n × ComesBefore n.device ns × NearRises U device ns
