-- What the code of `mail` gives.
use Rattle.std.specs.Prelude.{ℕ, ◌≡◌, ◌<◌, List, ◌++◌, Some, None, slice_index}
use Rattle.fc_nodes.specs.Program.{Unfolding}
use Rattle.topology.specs.Networks.{Network}
use Rattle.firing_core.specs.Cores.{Core}
use Rattle.message_links.specs.MailCores.{MailCore, MailEntryValue, MailRun}
use Rattle.message_links.specs.MailEntries.{mail_entries}
use Rattle.message_links.specs.declared.entries.MailFault.{MailFault}
use Rattle.message_links.specs.declared.entries.MailReplay.{MailReplay}
use Rattle.message_links.specs.declared.entries.MailReplay.TheVariants as replay
use Rattle.edit_commands.specs.LineByLine.{Lines, AllLines, StopsAt}
use Rattle.message_links.specs.MailRounds.{Posts}
use Rattle.mail_book.specs.MailReplays.{MailBookValue, FailsMailAt}
use Rattle.mail_book.specs.MailViews.{mail_of, quiet}
use Rattle.mail_count.specs.Laws.{IsGreatestMail}
use Rattle.report.specs.Texts.{values_text}
use Rattle.report.specs.Verdicts.{rounds_text}
use Rattle.command_frame.specs.declared.refusal.LineFault.{LineFault}
use Rattle.command_frame.specs.declared.refusal.LineFault.TheVariants.{Form}
use Rattle.command_frame.specs.declared.stop.Stop.{Stop}
use Rattle.command_frame.specs.declared.stop.Stop.TheVariants as stop
use Rattle.command_frame.specs.Causes.{Cause, Plainly}
use Rattle.command_frame.specs.Refusals.{log_refusal}
use Rattle.command_frame.specs.Stops.{stop_at}
use Rattle.net_json.specs.Scenes.{SceneValue}
use Rattle.fc_mail.specs.Drives.{Settles}
use Rattle.fc_mail.specs.Mails.{Mailed, mail_entries_in, line_of_entry, mail_line_fault}

-- behind a text, the values of a core and the greatest number of rounds of a mail log
pub record ShowsBehind (N : Network) (p : Posts) (log : List MailEntryValue) (last : Core) (old new : List ℕ)
    : Type 0 where
  pub rounds : ℕ
  pub counted : IsGreatestMail N p log rounds
  pub is : new ≡ old ++ values_text last ++ rounds_text rounds

-- a mail core of a scene whose flights are ended, in which nothing was heard and nothing is in transit
pub record IsSettledOf (U : Unfolding) (s : SceneValue) (m : MailCore) : Type 0 where
  pub core : Core
  pub is : m ≡ quiet core
  pub settles : Settles U s core
  pub rests : (d : ℕ) → core.flying d ≡ None

-- the cause by which the lines of a mail log aren't read
abbrev pub IsFaultyMail : Lines (Unit {0}) MailEntryValue → Cause → Type 0
IsFaultyMail (AllLines log) cause = ⊥
IsFaultyMail (StopsAt at u) cause = cause ≡ Plainly (log_refusal at Form)

-- a book of a mail log, from a start
pub record IsMailed (U : Unfolding) (start : MailCore) (log : List MailEntryValue) (b : MailBookValue) : Type 0 where
  pub start_is : mail_of b.start ≡ start
  pub log_is : mail_entries b.log ≡ log
  pub leads : MailRun U 0 start log (mail_of b.mail)

-- the cause by which a mail log isn't replayed
pub record IsStoppedMail (U : Unfolding) (start : MailCore) (log : Mailed) (cause : Cause) : Type 0 where
  pub index : ℕ
  pub fault : MailFault
  pub fails : FailsMailAt U start (mail_entries_in log) index fault
  pub why : LineFault
  pub told : mail_line_fault fault ≡ Some why
  pub is : cause ≡ Plainly (log_refusal (line_of_entry log index) why)

-- the stop of a mail log that isn't replayed, from the numbers of its lines
abbrev pub mail_stop : List ℕ → MailReplay → Stop
mail_stop lines (replay.At index why) = stop_at (slice_index lines index) (mail_line_fault why)
mail_stop lines replay.Memory = stop.Memory

-- the entry at which a mail log stops is one of so many
abbrev pub MailWithin : ℕ → MailReplay → Type 0
MailWithin n (replay.At index why) = index < n
MailWithin n replay.Memory = Unit {0}
