-- What `check --settle --changes` makes of the texts of a program, a scene, and lines of what may happen.
use Rattle.std.specs.Prelude.{ℕ, ◌≡◌, List, length, Option, Some, None}
use Rattle.fc_nodes.specs.Program.{Unfolding}
use Rattle.changes.specs.declared.types.ChangeFault.{ChangeFault}
use Rattle.changes.specs.declared.types.ChangeFault.TheVariants as changed
use Rattle.changes.specs.Changes.{ChangeValue}
use Rattle.changes.specs.Faults.{refused_line}
use Rattle.changes.specs.Hand.{said}
use Rattle.change_lines.specs.Changes.{changes_in}
use Rattle.change_envelopes.specs.Envelopes.{IsEnvelopeOf}
use Rattle.envelopes.specs.Envelopes.{Envelope}
use Rattle.bound_rounds.specs.Rounds.{BoundTable}
use Rattle.last_bounds.specs.LastBounds.{AreLastBounds, LastBound}
use Rattle.settle_rounds.specs.Rounds.{any_table}
use Rattle.settle_rounds.specs.Starts.{growing_cap}
use Rattle.settle_rounds.specs.Within.{StartTableWithin}
use Rattle.net_json.specs.Scenes.{SceneValue}
use Rattle.command_words.specs.declared.commands.ChangesOptions.{ChangesOptions}
use Rattle.command_words.specs.declared.commands.Start.{Start}
use Rattle.command_words.specs.declared.commands.Start.TheVariants.{Any, Table}
use Rattle.command_frame.specs.declared.refusal.LineFault.{LineFault}
use Rattle.command_frame.specs.declared.refusal.LineFault.TheVariants.{Form, Net}
use Rattle.command_frame.specs.Answers.{AnswerValue, plain}
use Rattle.command_frame.specs.Causes.{Judged, Accepted, Refused, Plainly}
use Rattle.command_frame.specs.Inputs.{OfScene}
use Rattle.command_frame.specs.Refusals.{changes_refusal}
use Rattle.command_frame.specs.Starts.{start_of}
use Rattle.fc_changes.specs.Lines.{bounds_text}

-- the table of bounds from which rounds within an envelope are counted: that of any exports, or the one to which the
-- scene's exports and copies in flight grow; where they grow for too many rounds, that of any exports as well
abbrev pub CountsFrom : Start → Unfolding → Envelope → SceneValue → BoundTable → Type 0
CountsFrom Any U E s table = table ≡ any_table U
CountsFrom Table U E s table = StartTableWithin U E s.net (growing_cap (length E.devices)) (start_of s) table

-- what is written of the last bounds from a table, with at most as many rounds as it may grow
pub record IsWritten (options : ChangesOptions) (U : Unfolding) (E : Envelope) (table : BoundTable)
    (answer : AnswerValue) : Type 0 where
  pub lasts : List LastBound
  pub are : AreLastBounds U E table (growing_cap (length E.devices)) lasts
  pub writes : answer ≡ plain 0 (bounds_text options.facts options.start U E lasts)

-- a program, a scene, and an envelope within which its network changes
pub record BoundsWithin (options : ChangesOptions) (U : Unfolding) (s : SceneValue) (E : Envelope)
    (answer : AnswerValue) : Type 0 where
  pub table : BoundTable
  pub starts : CountsFrom options.start U E s table
  pub written : IsWritten options U E table answer

-- the envelope is that of the scene and of what may happen
pub record BoundsChanges (options : ChangesOptions) (U : Unfolding) (s : SceneValue) (cs : List ChangeValue)
    (j : Judged AnswerValue) : Type 0 where
  pub envelope : Envelope
  pub is : IsEnvelopeOf s.net cs envelope
  pub answer : AnswerValue
  pub bounds : BoundsWithin options U s envelope answer
  pub accepted : j ≡ Accepted answer

-- why a line is refused, as refusals name it
abbrev pub line_fault_of : ChangeFault → LineFault
line_fault_of changed.Form = Form
line_fault_of (changed.Net fault) = Net fault

-- lines of changes, of which the first faulty one is refused
abbrev pub BoundsLines : ChangesOptions → Unfolding → SceneValue → List (ℕ × Option ChangeValue)
    → Option (ℕ × ChangeFault) → Judged AnswerValue → Type 0
BoundsLines options U s ls (Some line) j = j ≡ Refused (Plainly (changes_refusal line.0 (line_fault_of line.1)))
BoundsLines options U s ls None j = BoundsChanges options U s (said ls) j

-- what the lines of a text say, each with its number
abbrev pub change_lines_in : SceneValue → List ℕ → List (ℕ × Option ChangeValue)
change_lines_in s text = changes_in s.net.declared.inputs text

abbrev pub BoundsText : ChangesOptions → List ℕ → Unfolding → SceneValue → Judged AnswerValue → Type 0
BoundsText options text U s j =
    let ls = change_lines_in s text in BoundsLines options U s ls (refused_line s.net ls) j

-- the texts of a program, a scene and changes
abbrev pub ChecksChanges : ChangesOptions → List ℕ → List ℕ → List ℕ → Judged AnswerValue → Type 0
ChecksChanges options program network changes =
    OfScene (λ U s k. BoundsText options changes U s k) program network
