-- What is kept for an ordered pair in code, and what it stands for.
use Rattle.std.specs.Prelude.{ℕ, ◌≡◌, List, [], ◌∷◌, map, Option, Some, None, option_map}
use Rattle.fc_values.specs.Exports.{FlatExport, export_of}
use Rattle.fc_values.specs.Trees.{TreeExport}
use Rattle.fc_nodes.specs.Program.{Unfolding}
use Rattle.value_trees.specs.Copies.{WhereSome}
use Rattle.value_trees.specs.Snaps.{tree_of, IsExportOf}
use Rattle.message_links.specs.MailCores.{Message as MailMessage}
use Rattle.mail_book.specs.declared.letters.Message.{Message}
use Rattle.mail_book.specs.declared.letters.Letters.{Letters}

-- a message as plain values
abbrev pub letter_of : Message → FlatExport × Option ℕ
letter_of m = (export_of m.export, m.sent)

abbrev pub message_of : Unfolding → Message → MailMessage
message_of U m = record { export = tree_of U m.export; sent = m.sent }

abbrev pub heard_of : Unfolding → Letters → Option TreeExport
heard_of U l = option_map (tree_of U) l.heard

abbrev pub transit_of : Unfolding → Letters → List MailMessage
transit_of U l = map (message_of U) l.transit.items

-- all messages hold exports of the program
abbrev pub AllMessages : Unfolding → List Message → Type 0
AllMessages U [] = Unit {0}
AllMessages U (m ∷ ms) = IsExportOf U m.export × AllMessages U ms

pub record AreLetters (U : Unfolding) (l : Letters) : Type 0 where
  pub heard : WhereSome (IsExportOf U) l.heard
  pub transit : AllMessages U l.transit.items

abbrev pub AllLetters : Unfolding → List Letters → Type 0
AllLetters U [] = Unit {0}
AllLetters U (l ∷ ls) = AreLetters U l × AllLetters U ls

-- nothing was heard, and nothing is in transit
pub record IsQuiet (l : Letters) : Type 0 where
  pub heard : l.heard ≡ None
  pub transit : l.transit.items ≡ []

abbrev pub AllQuiet : List Letters → Type 0
AllQuiet [] = Unit {0}
AllQuiet (l ∷ ls) = IsQuiet l × AllQuiet ls

-- the oldest message is heard, and leaves
pub record Delivers (old new : Letters) : Type 0 where
  pub oldest : Message
  pub later : List Message
  pub there : old.transit.items ≡ oldest ∷ later
  pub heard : new.heard ≡ Some oldest.export
  pub transit : new.transit.items ≡ later

-- the oldest message is heard, and stays
pub record Repeats (old new : Letters) : Type 0 where
  pub oldest : Message
  pub later : List Message
  pub there : old.transit.items ≡ oldest ∷ later
  pub heard : option_map export_of new.heard ≡ Some (export_of oldest.export)
  pub transit : new.transit ≡ old.transit

-- the same is heard, and the same is in transit
pub record SameLetters (old new : Letters) : Type 0 where
  pub heard : option_map export_of new.heard ≡ option_map export_of old.heard
  pub transit : map letter_of new.transit.items ≡ map letter_of old.transit.items

abbrev pub SameRow : List Letters → List Letters → Type 0
SameRow [] [] = Unit {0}
SameRow (l ∷ ls) (m ∷ ms) = SameLetters l m × SameRow ls ms
SameRow _ _ = ⊥
