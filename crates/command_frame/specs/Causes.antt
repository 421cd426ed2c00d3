-- Why an input is refused, and what is judged: accepted, or refused for a cause.
use Rattle.std.specs.Prelude.{ℕ, ◌≡◌, List, [], ◌∷◌, ◌++◌, codes, Option, Some, None}
use Rattle.std.specs.Fmt.{decimal}
use Rattle.fc_values.specs.Judgements.{Judgement}
pub use Rattle.fc_values.specs.Judgements.{Accepted, Refused}
use Rattle.topology.specs.declared.types.NetFault.{NetFault}
use Rattle.net_json.specs.Judging as scene
use Rattle.net_json.specs.Judging.{NotJson, Misshaped, BadNetwork, BadKept, TooManyDevices}
use Rattle.command_frame.specs.declared.refusal.Refusal.{Refusal}
use Rattle.command_frame.specs.declared.refusal.Refusal.TheVariants.{Devices}
use Rattle.command_frame.specs.FaultWords.{net_word}
use Rattle.command_frame.specs.Answers.{AnswerValue, plain}
use Rattle.command_frame.specs.Refusals.{line, refused, network_limit}

-- a refusal, or the first fault of a scene
pub data Cause : Type 0 where
  Plainly : Refusal → Cause
  InScene : scene.SceneRefusal → Cause

-- a path as text: that of the scene itself is `/`
abbrev pub path_text : List ℕ → List ℕ
path_text [] = codes "/"
path_text (b ∷ bs) = b ∷ bs

abbrev pub scene_answer : List ℕ → AnswerValue
scene_answer text = plain 3 (line text)

-- a network's refusal at a path: a limit, or its word
abbrev pub or_network : Option Refusal → List ℕ → NetFault → AnswerValue
or_network None path fault = scene_answer (codes "network " ++ path_text path ++ codes " " ++ net_word fault)
or_network (Some limit) path fault = refused limit

-- the answer to the first fault of a scene
abbrev pub scene_refused : scene.SceneRefusal → AnswerValue
scene_refused NotJson = scene_answer (codes "json")
scene_refused (Misshaped path) = scene_answer (codes "shape " ++ path_text path)
scene_refused (BadNetwork path fault) = or_network (network_limit fault) path fault
scene_refused (BadKept path place) = scene_answer (codes "kept " ++ path_text path ++ codes " " ++ decimal place)
scene_refused (TooManyDevices count) = refused (Devices count)

-- the answer to what is refused
abbrev pub answer_to : Cause → AnswerValue
answer_to (Plainly refusal) = refused refusal
answer_to (InScene refusal) = scene_refused refusal

-- what texts are read to and what a command makes of them, or why they are refused
abbrev pub Judged : Type 0 → Type 0
Judged A = Judgement Cause A

-- what comes after something that is judged: its refusal stays
abbrev pub AndThen : {A B : Type 0} → Judged A → (A → Judged B → Type 0) → Judged B → Type 0
AndThen (Accepted x) Next j = Next x j
AndThen (Refused cause) Next j = j ≡ Refused cause

-- the same, of what is made of what is accepted
abbrev pub judged_map : {A B : Type 0} → (A → B) → Judged A → Judged B
judged_map f (Accepted x) = Accepted (f x)
judged_map f (Refused cause) = Refused cause

-- the answer that is judged so
abbrev pub answer_of : Judged AnswerValue → AnswerValue
answer_of (Accepted answer) = answer
answer_of (Refused cause) = answer_to cause
