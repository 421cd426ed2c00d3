-- What the code has on the way.
use Rattle.std.specs.Prelude.{ℕ, ◌≡◌, List, length, Option, Some}
use Rattle.fc_nodes.specs.Program.{Unfolding}
use Rattle.topology.specs.Networks.{Network}
use Rattle.changes.specs.declared.types.ChangeFault.{ChangeFault}
use Rattle.changes.specs.Changes.{ChangeValue}
use Rattle.changes.specs.Faults.{refused_line}
use Rattle.envelopes.specs.Envelopes.{Envelope}
use Rattle.bound_rounds.specs.Rounds.{BoundTable}
use Rattle.settle_rounds.specs.Starts.{growing_cap}
use Rattle.settle_rounds.specs.Within.{StartTableWithin}
use Rattle.net_json.specs.Scenes.{SceneValue}
use Rattle.command_words.specs.declared.commands.ChangesOptions.{ChangesOptions}
use Rattle.command_frame.specs.Answers.{AnswerValue}
use Rattle.command_frame.specs.Causes.{Cause, Plainly}
use Rattle.command_frame.specs.Refusals.{changes_refusal}
use Rattle.command_frame.specs.Starts.{start_of}
use Rattle.fc_changes.specs.Commands.{IsWritten, line_fault_of}

-- a cause is the refusal of the first faulty line
pub record IsRefused (n : Network) (ls : List (ℕ × Option ChangeValue)) (cause : Cause) : Type 0 where
  pub line : ℕ
  pub fault : ChangeFault
  pub refused : refused_line n ls ≡ Some (line, fault)
  pub is : cause ≡ Plainly (changes_refusal line (line_fault_of fault))

-- the answer where rounds are counted from a scene
pub record IsWrittenFrom (options : ChangesOptions) (U : Unfolding) (E : Envelope) (s : SceneValue)
    (answer : AnswerValue) : Type 0 where
  pub table : BoundTable
  pub starts : StartTableWithin U E s.net (growing_cap (length E.devices)) (start_of s) table
  pub written : IsWritten options U E table answer
