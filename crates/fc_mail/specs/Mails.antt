-- What `mail` makes of a program, a scene and a mail log.
use Rattle.std.specs.Prelude.{ℕ, ◌≡◌, ◌⊎◌, List, ◌++◌, map, slice_index, Option, Some}
use Rattle.fc_nodes.specs.Program.{Unfolding}
use Rattle.topology.specs.declared.types.NetFault.TheVariants as net
use Rattle.message_links.specs.MailCores.{MailCore, MailEntryValue, MailRun}
use Rattle.message_links.specs.MailRounds.{posts_of}
use Rattle.message_links.specs.declared.entries.MailFault.{MailFault}
use Rattle.message_links.specs.declared.entries.MailFault.TheVariants as fault
use Rattle.mail_lines.specs.MailLines.{mail_log}
use Rattle.edit_commands.specs.LineByLine.{Lines, AllLines, StopsAt}
use Rattle.mail_book.specs.MailViews.{quiet}
use Rattle.mail_book.specs.MailReplays.{FailsMailAt}
use Rattle.mail_count.specs.Laws.{IsGreatestMail}
use Rattle.net_json.specs.Scenes.{SceneValue}
use Rattle.report.specs.Texts.{values_text}
use Rattle.report.specs.Verdicts.{rounds_text}
use Rattle.command_frame.specs.declared.refusal.LineFault.{LineFault}
use Rattle.command_frame.specs.declared.refusal.LineFault.TheVariants.{Form, Net, Empty}
use Rattle.command_frame.specs.Answers.{AnswerValue, plain}
use Rattle.command_frame.specs.Refusals.{log_refusal}
use Rattle.command_frame.specs.Causes.{Plainly, Judged, Accepted, Refused}
use Rattle.command_frame.specs.Inputs.{OfScene}
use Rattle.command_frame.specs.LineFaults.{step_fault}
use Rattle.command_frame.specs.Starts.{start_of}

-- the entries of a mail log, each with the number of its line
abbrev pub Mailed : Type 0
Mailed = List (ℕ × MailEntryValue)

abbrev pub mail_entries_in : Mailed → List MailEntryValue
mail_entries_in log = map (λ (l : ℕ × MailEntryValue). l.1) log

abbrev pub line_of_entry : Mailed → ℕ → ℕ
line_of_entry log index = slice_index (map (λ (l : ℕ × MailEntryValue). l.0) log) index

-- why an entry has no step, as refusals name it. Want of memory is no reason
abbrev pub mail_line_fault : MailFault → Option LineFault
mail_line_fault (fault.Step why) = step_fault why
mail_line_fault fault.NoLink = Some (Net net.NoLink)
mail_line_fault fault.Empty = Some Empty

-- a log that leads from a mail core to one: the values of its core, and the number of rounds
pub record ShowsMail (U : Unfolding) (start : MailCore) (log : Mailed) (j : Judged AnswerValue) : Type 0 where
  pub last : MailCore
  pub leads : MailRun U 0 start (mail_entries_in log) last
  pub rounds : ℕ
  pub counted : IsGreatestMail start.core.net (posts_of start) (mail_entries_in log) rounds
  pub is : j ≡ Accepted (plain 0 (values_text last.core ++ rounds_text rounds))

-- a log that is refused at the line of the first entry that has no step
pub record StopsMail (U : Unfolding) (start : MailCore) (log : Mailed) (j : Judged AnswerValue) : Type 0 where
  pub index : ℕ
  pub fault : MailFault
  pub fails : FailsMailAt U start (mail_entries_in log) index fault
  pub why : LineFault
  pub told : mail_line_fault fault ≡ Some why
  pub is : j ≡ Refused (Plainly (log_refusal (line_of_entry log index) why))

-- the lines of a mail log, of which the first that is no entry is refused
abbrev pub MailsLines : Unfolding → MailCore → Lines (Unit {0}) MailEntryValue → Judged AnswerValue → Type 0
MailsLines U start (StopsAt at tt) j = j ≡ Refused (Plainly (log_refusal at Form))
MailsLines U start (AllLines log) j = ShowsMail U start log j ⊎ StopsMail U start log j

-- a program and a scene of it, in which nothing was heard and nothing is in transit
abbrev pub MailsScene : Unfolding → SceneValue → List ℕ → Judged AnswerValue → Type 0
MailsScene U s log j = MailsLines U (quiet (start_of s)) (mail_log log) j

-- the texts of a program, a scene and a mail log
abbrev pub Mails : List ℕ → List ℕ → List ℕ → Judged AnswerValue → Type 0
Mails program network log j = OfScene (λ U s k. MailsScene U s log k) program network j
