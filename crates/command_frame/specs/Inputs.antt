-- What every command over a scene reads: a program, and a scene of it.
use Rattle.std.specs.Prelude.{ℕ, ◌≡◌, ◌≤◌, List, length}
use Rattle.std.specs.List.{All}
use Rattle.fc_values.specs.Names.{IsName}
use Rattle.fc_values.specs.Types.{Input}
use Rattle.fc_syntax.specs.Terms.{Declaration}
use Rattle.fc_nodes.specs.Program.{IsProgram, Program, Unfolding, unfolding_of}
use Rattle.net_json.specs.Judging as scene
use Rattle.net_json.specs.Scenes.{SceneValue, scene_of}
use Rattle.fc_values.specs.declared.limits.TheConstants.{MOST_BYTES}
use Rattle.command_frame.specs.Answers.{AnswerValue}
use Rattle.command_frame.specs.Causes.{InScene, Judged, Accepted, Refused, AndThen}
use Rattle.command_frame.specs.Sources.{IsProgramText, ReadsSource, ReadsProgram}

-- a program and a scene of it
abbrev pub InputOf : Type 0
InputOf = Unfolding × SceneValue

-- a judged scene, beside its program
abbrev pub with_scene : Unfolding → scene.JudgedScene SceneValue → Judged InputOf
with_scene U (scene.Accepted s) = Accepted (U, s)
with_scene U (scene.Refused refusal) = Refused (InScene refusal)

-- the texts of a program, within the limit, and of a scene: the program is judged first, and then the scene of that
-- program
pub record ReadsInput (program network : List ℕ) (j : Judged InputOf) : Type 0 where
  pub short : length program ≤ MOST_BYTES
  pub judged : Judged Unfolding
  pub reads : ReadsProgram program judged
  pub scene : AndThen judged (λ U k. k ≡ with_scene U (scene_of U network)) j

-- what is made of the texts of a program and a scene: of the two that they are read to, or of their refusal
pub record OfScene (Makes : Unfolding → SceneValue → Judged AnswerValue → Type 0) (program network : List ℕ)
    (j : Judged AnswerValue) : Type 0 where
  pub judged : Judged InputOf
  pub reads : ReadsInput program network judged
  pub ends : AndThen judged (λ i k. Makes i.0 i.1 k) j

-- ---- the laws: texts are read to one thing

abbrev pub OneSource : Type 0
OneSource =
    (text : List ℕ) → (j : Judged (List Declaration)) × ReadsSource text j
    × ((k : Judged (List Declaration)) → ReadsSource text k → k ≡ j)

abbrev pub OneProgramText : Type 0
OneProgramText =
    (text : List ℕ) → (j : Judged Unfolding) × ReadsProgram text j
    × ((k : Judged Unfolding) → ReadsProgram text k → k ≡ j)

abbrev pub OneInput : Type 0
OneInput =
    (program network : List ℕ) → length program ≤ MOST_BYTES → (j : Judged InputOf) × ReadsInput program network j
    × ((k : Judged InputOf) → ReadsInput program network k → k ≡ j)

-- ---- what a text unfolds to is that of a program of nodes, and its inputs have names of the language

abbrev pub TextsUnfold : Type 0
TextsUnfold =
    (program network : List ℕ) (i : InputOf) → ReadsInput program network (Accepted i)
    → (P : Program) × IsProgram P × (unfolding_of P ≡ i.0)

abbrev pub TextsNameInputs : Type 0
TextsNameInputs =
    (text : List ℕ) (U : Unfolding) → IsProgramText text U → All (λ (i : Input). IsName i.name) U.declared.inputs
