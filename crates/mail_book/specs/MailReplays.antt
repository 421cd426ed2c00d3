-- Why an entry has no step, and books of mail logs.
use Rattle.std.specs.Prelude.{ℕ, Bool, ◌≡◌, List, ◌∷◌, ◌++◌, length, nat_lt, if◌then◌else◌, Option}
use Rattle.std.specs.Prelude.{Some, None, option_map, Result, Err}
use Rattle.fc_nodes.specs.Program.{Unfolding}
use Rattle.firing_core.specs.declared.entries.StepFault.{StepFault}
use Rattle.firing_core.specs.declared.entries.StepFault.TheVariants as step
use Rattle.firing_core.specs.Entries.{BeginEntry, EndEntry}
use Rattle.firing_core.specs.Replays.{fault_of}
use Rattle.message_links.specs.MailCores.{reaches, MailCore, MailEntryValue, MailBegin, MailEnd, MailIdle}
use Rattle.message_links.specs.MailCores.{MailDeliver, MailAgain, MailLose, MailRun, IsMailStart}
use Rattle.message_links.specs.declared.entries.MailEntry.{MailEntry}
use Rattle.message_links.specs.declared.entries.MailFault.{MailFault}
use Rattle.message_links.specs.declared.entries.MailFault.TheVariants as fault
use Rattle.message_links.specs.declared.entries.MailReplay.{MailReplay}
use Rattle.message_links.specs.declared.entries.MailReplay.TheVariants as replay
use Rattle.message_links.specs.MailEntries.{mail_entries}
use Rattle.mail_book.specs.MailViews.{MailValue, mail_of, unfolded_of}

-- why what happens to a message has no step: the devices aren't linked, or there is no such message
abbrev pub message_fault : Bool → Bool → Option MailFault
message_fault linked there = if linked then (if there then None else Some fault.Empty) else Some fault.NoLink

-- why an entry has no step
abbrev pub mail_fault : MailCore → MailEntryValue → Option MailFault
mail_fault c (MailBegin d) = option_map fault.Step (fault_of c.core (BeginEntry d))
mail_fault c (MailEnd d) = option_map fault.Step (fault_of c.core (EndEntry d))
mail_fault c MailIdle = None
mail_fault c (MailDeliver a b) = message_fault (reaches c.core.net a b) (nat_lt 0 (length (c.transit a b)))
mail_fault c (MailAgain a b) = message_fault (reaches c.core.net a b) (nat_lt 0 (length (c.transit a b)))
mail_fault c (MailLose a b i) = message_fault (reaches c.core.net a b) (nat_lt i (length (c.transit a b)))

-- a begin or an end has no step for this reason. Want of memory is always allowed
abbrev pub HasStepFault : MailCore → MailEntryValue → StepFault → Type 0
HasStepFault c e step.NoDevice = mail_fault c e ≡ Some (fault.Step step.NoDevice)
HasStepFault c e step.Flying = mail_fault c e ≡ Some (fault.Step step.Flying)
HasStepFault c e step.NotFlying = mail_fault c e ≡ Some (fault.Step step.NotFlying)
HasStepFault c e step.Memory = Unit {0}

abbrev pub HasMailFault : MailCore → MailEntryValue → MailFault → Type 0
HasMailFault c e f = mail_fault c e ≡ Some f

-- the entry at an index is refused: it has no step from a mail core, for this reason. Want of memory is always allowed
abbrev pub RefusesMail : ℕ → MailCore → MailEntryValue → MailReplay → Type 0
RefusesMail i c e (replay.At index why) = (index ≡ i) × (mail_fault c e ≡ Some why)
RefusesMail i c e replay.Memory = Unit {0}

-- what the answer to the entry at an index says of a refusal. Want of memory is always allowed
abbrev pub AtStep : ℕ → Result (Unit {0}) StepFault → MailReplay → Type 0
AtStep i answer (replay.At index why) =
    (f : StepFault) × (index ≡ i) × (answer ≡ Err f) × (why ≡ fault.Step f) × (f ≡ step.Memory → ⊥)
AtStep i answer replay.Memory = Unit {0}

abbrev pub AtLink : ℕ → Result (Unit {0}) MailFault → MailReplay → Type 0
AtLink i answer (replay.At index why) = (index ≡ i) × (answer ≡ Err why)
AtLink i answer replay.Memory = ⊥

-- ---- books

pub record MailBookValue : Type 0 where
  pub start : MailValue
  pub log : List MailEntry
  pub mail : MailValue

-- a log may start from the start, and leads from it to the mail core
pub record IsMailBook (b : MailBookValue) : Type 0 where
  pub started : IsMailStart (unfolded_of b.start) (mail_of b.start)
  pub program : b.mail.core.program ≡ b.start.core.program
  pub run : MailRun (unfolded_of b.start) 0 (mail_of b.start) (mail_entries b.log) (mail_of b.mail)

-- the entry at an index is the first of a mail log that has no step, for this reason
pub record FailsMailAt (U : Unfolding) (c : MailCore) (log : List MailEntryValue) (index : ℕ) (why : MailFault)
    : Type 0 where
  pub front : List MailEntryValue
  pub entry : MailEntryValue
  pub rest : List MailEntryValue
  pub cut : log ≡ front ++ entry ∷ rest
  pub place : index ≡ length front
  pub before : MailCore
  pub runs : MailRun U 0 c front before
  pub refuses : mail_fault before entry ≡ Some why

abbrev pub FailsMail : Unfolding → MailCore → List MailEntryValue → MailReplay → Type 0
FailsMail U c log (replay.At index why) = FailsMailAt U c log index why
FailsMail U c log replay.Memory = Unit {0}
