-- The core that a scene starts from.
use Rattle.std.specs.Prelude.{ℕ, List}
use Rattle.fc_values.specs.Trees.{Copy}
use Rattle.firing_core.specs.Cores.{Core, IsGood}
use Rattle.firing_core.specs.Starts.{look_up}
use Rattle.net_json.specs.Scenes.{SceneValue}
use Rattle.net_json.specs.Tables.{Row}
use Rattle.command_frame.specs.Causes.{Accepted}
use Rattle.command_frame.specs.Inputs.{InputOf, OneInput, ReadsInput, TextsUnfold}
use Rattle.command_frame.specs.Sources.{IsProgramText}

-- the core of a scene: its network, the exports of its table, and its copies in flight
abbrev pub start_of : SceneValue → Core
start_of s = record {
  net = s.net;
  exports = look_up (λ (r : Row). r.0) (λ (r : Row). r.1) s.table;
  flying = look_up (λ (c : Copy). c.device) (λ (c : Copy). c) s.pending;
}

-- an accepted input is the program of a text, and a scene that starts a good core of it
pub record InputStarts (program : List ℕ) (i : InputOf) : Type 0 where
  pub text : IsProgramText program i.0
  pub good : IsGood i.0 (start_of i.1)

abbrev pub InputsStart : Type 0
InputsStart =
    (program network : List ℕ) (i : InputOf) → ReadsInput program network (Accepted i) → InputStarts program i

-- the laws that commands use of the texts of a program and a scene
pub record InputsAreRead : Type 0 where
  pub one : OneInput
  pub unfolded : TextsUnfold
  pub start : InputsStart
