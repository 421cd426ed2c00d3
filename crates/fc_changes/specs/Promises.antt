-- What `check --settle --changes` promises.
use Rattle.std.specs.Prelude.{ℕ, false, ◌≡◌, ◌≤◌, List, length, map, not, Some}
use Rattle.std.specs.List.{All}
use Rattle.fc_values.specs.Trees.{TreeExport}
use Rattle.fc_values.specs.declared.limits.TheConstants.{MOST_BYTES}
use Rattle.fc_nodes.specs.Program.{Unfolding}
use Rattle.fc_nodes.specs.declared.verdicts.Verdict.TheVariants as verdict
use Rattle.topology.specs.Networks.{Network, IsNetwork}
use Rattle.firing_core.specs.Cores.{Core, IsGood, Run}
use Rattle.firing_core.specs.Entries.{EntryValue, BeginEntry, EndEntry, IdleEntry, EditEntry}
use Rattle.fragment_check.specs.Verdicts.{verdict_of}
use Rattle.converge_laws.specs.Stabilising.{Stabilises}
use Rattle.value_bounds.specs.BoundValues.{Lies}
use Rattle.envelopes.specs.Envelopes.{Envelope, LiesWithin, ids, surely_lives}
use Rattle.envelope_bounds.specs.Logs.{StaysWithin}
use Rattle.changes.specs.Changes.{ChangeValue}
use Rattle.changes.specs.Faults.{NoneRefused}
use Rattle.changes.specs.Hand.{said}
use Rattle.change_envelopes.specs.Allowed.{Allows}
use Rattle.change_envelopes.specs.Envelopes.{IsEnvelopeOf}
use Rattle.change_envelopes.specs.Laws.{IsSaid}
use Rattle.last_bounds.specs.LastBounds.{LastBound}
use Rattle.settle_rounds.specs.Lines.{LiesAt}
use Rattle.settle_rounds.specs.Within.{RoundsWithin}
use Rattle.net_json.specs.Scenes.{SceneValue}
use Rattle.command_words.specs.declared.commands.ChangesOptions.{ChangesOptions}
use Rattle.command_words.specs.declared.commands.Start.{Start}
use Rattle.command_words.specs.declared.commands.Start.TheVariants.{Any, Table}
use Rattle.command_frame.specs.Answers.{AnswerValue, plain}
use Rattle.command_frame.specs.Causes.{Accepted}
use Rattle.command_frame.specs.Inputs.{ReadsInput}
use Rattle.command_frame.specs.Owing.{IsZero, OfThree, Owes}
use Rattle.command_frame.specs.Sections.{AreWithin, WithThree}
use Rattle.command_frame.specs.Starts.{start_of}
use Rattle.fc_changes.specs.Commands.{ChecksChanges, change_lines_in}
use Rattle.fc_changes.specs.Lines.{bounds_text}

-- a log each of whose edits is one that some line allows
abbrev pub IsAllowed : Network → List ChangeValue → EntryValue → Type 0
IsAllowed n cs (BeginEntry d) = Unit {0}
IsAllowed n cs (EndEntry d) = Unit {0}
IsAllowed n cs IdleEntry = Unit {0}
IsAllowed n cs (EditEntry e) = (c : ChangeValue) × IsSaid c cs × Allows n cs c e

-- the scene lies within an envelope, and a log of such edits from a core that does stays in it
pub record EnvelopeHolds (U : Unfolding) (n : Network) (cs : List ChangeValue) (E : Envelope) : Type 0 where
  pub scene : LiesWithin E n
  pub stays : (c last : Core) (log : List EntryValue) → LiesWithin E c.net → Run U c log last → All (IsAllowed n cs) log
      → StaysWithin E c.net log

-- a yes for as many devices as an envelope has is kept on each network within it
abbrev pub KeepsYesWithin : Unfolding → Envelope → Type 0
KeepsYesWithin U E = (N : Network) (K : ℕ) → IsNetwork N → LiesWithin E N
    → verdict_of U (length E.devices) ≡ verdict.Yes K → Stabilises U N K

-- what a line says of a device: from every good core, once a log that stays within the envelope has its rounds, and any
-- more. Where rounds are counted from the scene's table, from its core alone, and there the second bound from now on
pub record HoldsFromScene (U : Unfolding) (E : Envelope) (s : SceneValue) (l : LastBound) : Type 0 where
  pub after : (last : Core) (m : ℕ) → l.rounds ≤ m → RoundsWithin U E m (start_of s) last
      → LiesAt E l.device l.bound last
  pub before : (last : Core) (m : ℕ) → RoundsWithin U E m (start_of s) last → (e : TreeExport)
      → last.exports l.device ≡ Some e → Lies l.before e.value

abbrev pub LineHolds : Start → Unfolding → Envelope → SceneValue → LastBound → Type 0
LineHolds Any U E s l = (start last : Core) (m : ℕ) → IsGood U start → l.rounds ≤ m → RoundsWithin U E m start last
    → LiesAt E l.device l.bound last
LineHolds Table U E s l = HoldsFromScene U E s l

-- `check --settle --changes` writes the verdict's text for all devices of the envelope of the scene and the lines, and
-- for each of them its last bound. All that the lines allow stays within the envelope; a yes is kept on each network
-- there, once it stands still; and what each line says of its device holds
pub record ChangesKept (options : ChangesOptions) (program network changes : List ℕ)
    (answer : AnswerValue) : Type 0 where
  pub unfolded : Unfolding
  pub scene : SceneValue
  pub reads : ReadsInput program network (Accepted (unfolded, scene))
  pub accepted : NoneRefused scene.net (change_lines_in scene changes)
  pub envelope : Envelope
  pub is : IsEnvelopeOf scene.net (said (change_lines_in scene changes)) envelope
  pub within : EnvelopeHolds unfolded scene.net (said (change_lines_in scene changes)) envelope
  pub yes : KeepsYesWithin unfolded envelope
  pub lasts : List LastBound
  pub devices : map (λ (l : LastBound). l.device) lasts ≡ ids envelope.devices
  pub away : All (λ (l : LastBound). l.away ≡ not (surely_lives envelope l.device)) lasts
  pub hold : All (LineHolds options.start unfolded envelope scene) lasts
  pub writes : answer ≡ plain 0 (bounds_text options.facts options.start unfolded envelope lasts)

-- `check --settle --changes` owes three sections an answer
abbrev pub ChangesOwe : Type 0
ChangesOwe = (options : ChangesOptions)
    → Owes false (AreWithin MOST_BYTES) (λ sections j. WithThree (ChecksChanges options) sections j) IsZero
    (λ sections answer.
    OfThree (λ program network changes. ChangesKept options program network changes answer) sections)
