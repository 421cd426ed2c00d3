-- Entries and commands of two readings of one text: they may differ in what an export holds at the places of a branch
-- that isn't taken, and in nothing else.
use Rattle.std.specs.Prelude.{ℕ, ◌≡◌, List, [], ◌∷◌}
use Rattle.fc_values.specs.Exports.{FlatExport}
use Rattle.fc_nodes.specs.Program.{Unfolding}
use Rattle.fc_nodes.specs.Flat.{IsExport, tree_export}
use Rattle.firing_core.specs.declared.entries.ReplayFault.{ReplayFault}
use Rattle.firing_core.specs.Entries.{EditValue, LinkEdit, UnlinkEdit, SetEdit, PokeEdit, JoinEdit}
use Rattle.firing_core.specs.Entries.{LeaveEdit, EntryValue, BeginEntry, EndEntry, IdleEntry, EditEntry}
use Rattle.firing_core.specs.Cores.{Core}
use Rattle.firing_core.specs.Replays.{fault_of, net_fault_of, step_of, replay}
use Rattle.firing_core.specs.Rounds.{after_edit}
use Rattle.firing_core.specs.Books.{FailsReplay}
use Rattle.edit_commands.specs.LineByLine.{AreSaid}
use Rattle.edit_commands.specs.Scripts.{ScriptLine, CommandValue, RunCommand, EditCommand, ScrambleCommand, ShowCommand, MixCommand, IsCommand}

-- two exports of a program that stand for one tree
pub record SameExport (U : Unfolding) (x y : FlatExport) : Type 0 where
  pub first : IsExport U x
  pub second : IsExport U y
  pub tree : tree_export U x ≡ tree_export U y

abbrev pub SamePoke : Unfolding → ℕ → FlatExport → EditValue → Type 0
SamePoke U d x (LinkEdit a b w) = ⊥
SamePoke U d x (UnlinkEdit a b) = ⊥
SamePoke U d x (SetEdit e i v) = ⊥
SamePoke U d x (PokeEdit e y) = (e ≡ d) × SameExport U x y
SamePoke U d x (JoinEdit y) = ⊥
SamePoke U d x (LeaveEdit e) = ⊥

abbrev pub SameEdit : Unfolding → EditValue → EditValue → Type 0
SameEdit U (LinkEdit a b w) f = f ≡ LinkEdit a b w
SameEdit U (UnlinkEdit a b) f = f ≡ UnlinkEdit a b
SameEdit U (SetEdit d i v) f = f ≡ SetEdit d i v
SameEdit U (PokeEdit d x) f = SamePoke U d x f
SameEdit U (JoinEdit x) f = f ≡ JoinEdit x
SameEdit U (LeaveEdit d) f = f ≡ LeaveEdit d

abbrev pub SameAsEdit : Unfolding → EditValue → EntryValue → Type 0
SameAsEdit U e (BeginEntry d) = ⊥
SameAsEdit U e (EndEntry d) = ⊥
SameAsEdit U e IdleEntry = ⊥
SameAsEdit U e (EditEntry f) = SameEdit U e f

abbrev pub SameEntry : Unfolding → EntryValue → EntryValue → Type 0
SameEntry U (BeginEntry d) f = f ≡ BeginEntry d
SameEntry U (EndEntry d) f = f ≡ EndEntry d
SameEntry U IdleEntry f = f ≡ IdleEntry
SameEntry U (EditEntry e) f = SameAsEdit U e f

abbrev pub SameEntries : Unfolding → List EntryValue → List EntryValue → Type 0
SameEntries U [] [] = Unit {0}
SameEntries U (e ∷ es) (f ∷ fs) = SameEntry U e f × SameEntries U es fs
SameEntries U _ _ = ⊥

-- an entry and the same one are refused alike, and lead to the same core
abbrev pub StepsAgree : Type 0
StepsAgree =
    (U : Unfolding) (e f : EntryValue) → SameEntry U e f → (c : Core)
    → (fault_of c e ≡ fault_of c f) × (net_fault_of c e ≡ net_fault_of c f) × (step_of U c e ≡ step_of U c f)

-- the same entries lead to the same core
abbrev pub ReplaysAgree : Type 0
ReplaysAgree =
    (U : Unfolding) (es fs : List EntryValue) → SameEntries U es fs → (c : Core) → replay U c es ≡ replay U c fs

-- or they are refused at the same entry, for the same reason
abbrev pub FaultsAgree : Type 0
FaultsAgree =
    (U : Unfolding) (es fs : List EntryValue) → SameEntries U es fs → (c : Core) (fault : ReplayFault)
    → FailsReplay U c es fault → FailsReplay U c fs fault

-- after their last edit they are equal
abbrev pub PartsAgree : Type 0
PartsAgree = (U : Unfolding) (es fs : List EntryValue) → SameEntries U es fs → after_edit es ≡ after_edit fs

-- ---- commands of a script

abbrev pub SameChange : Unfolding → EditValue → CommandValue → Type 0
SameChange U e (RunCommand r) = ⊥
SameChange U e (EditCommand f) = SameEdit U e f
SameChange U e (ScrambleCommand n) = ⊥
SameChange U e ShowCommand = ⊥
SameChange U e (MixCommand r f) = ⊥

abbrev pub SameMix : Unfolding → ℕ → EditValue → CommandValue → Type 0
SameMix U rounds e (RunCommand r) = ⊥
SameMix U rounds e (EditCommand f) = ⊥
SameMix U rounds e (ScrambleCommand n) = ⊥
SameMix U rounds e ShowCommand = ⊥
SameMix U rounds e (MixCommand r f) = (r ≡ rounds) × SameEdit U e f

-- two commands that ask for the same
abbrev pub SameCommand : Unfolding → CommandValue → CommandValue → Type 0
SameCommand U (RunCommand r) k = k ≡ RunCommand r
SameCommand U (EditCommand e) k = SameChange U e k
SameCommand U (ScrambleCommand n) k = k ≡ ScrambleCommand n
SameCommand U ShowCommand k = k ≡ ShowCommand
SameCommand U (MixCommand r e) k = SameMix U r e k

abbrev pub SameCommands : Unfolding → List (ℕ × CommandValue) → List (ℕ × CommandValue) → Type 0
SameCommands U [] [] = Unit {0}
SameCommands U (x ∷ xs) (y ∷ ys) = (y.0 ≡ x.0) × SameCommand U x.1 y.1 × SameCommands U xs ys
SameCommands U _ _ = ⊥

-- two readings of a script ask for the same
abbrev pub CommandsAgree : Type 0
CommandsAgree =
    (U : Unfolding) (lines : List (ℕ × ScriptLine)) (xs ys : List (ℕ × CommandValue))
    → AreSaid (IsCommand U) lines xs → AreSaid (IsCommand U) lines ys → SameCommands U xs ys
