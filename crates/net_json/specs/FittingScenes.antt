-- What a program may start from.
use Rattle.std.specs.Prelude.{ℕ, ◌≡◌, List, map}
use Rattle.std.specs.List.{All}
use Rattle.fc_values.specs.Fields.{Rises}
use Rattle.fc_values.specs.Trees.{Copy}
use Rattle.fc_nodes.specs.Program.{Unfolding}
use Rattle.value_trees.specs.Copies.{FitsCopy}
use Rattle.topology.specs.Networks.{Network, Lives, IsNetwork}
use Rattle.net_json.specs.Judging.{Accepted}
use Rattle.net_json.specs.Copies.{copy_number}
use Rattle.net_json.specs.Scenes.{SceneValue, scene_of}
use Rattle.net_json.specs.ReadingBack.{AreTableRows}

-- copies of devices that are there, rising, each of which fits
pub record AreFlights (U : Unfolding) (n : Network) (copies : List Copy) : Type 0 where
  pub rising : Rises (map copy_number copies)
  pub there : All (λ (c : Copy). Lives n c.device) copies
  pub fit : All (FitsCopy U) copies

-- a network with the declarations of a program, rows with exports of the program, and copies that its firings may read
pub record SceneFits (U : Unfolding) (s : SceneValue) : Type 0 where
  pub net : IsNetwork s.net
  pub declared : s.net.declared ≡ U.declared
  pub table : AreTableRows U s.net s.table
  pub pending : AreFlights U s.net s.pending

-- the scene of a text, where it is accepted, is one that the program may start from
abbrev pub AcceptedScenesFit : Type 0
AcceptedScenesFit = (U : Unfolding) (text : List ℕ) (s : SceneValue) → scene_of U text ≡ Accepted s → SceneFits U s
