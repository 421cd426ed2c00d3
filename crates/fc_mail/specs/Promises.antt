-- What `mail` promises.
use Rattle.std.specs.Prelude.{ℕ, false, ◌≡◌, ◌≤◌, List, ◌++◌, length, Option, Some, None}
use Rattle.fc_nodes.specs.Program.{Unfolding}
use Rattle.fc_nodes.specs.declared.verdicts.Verdict.TheVariants as verdict
use Rattle.fragment_check.specs.Verdicts.{verdict_of}
use Rattle.mail_laws.specs.Laws.{MailStabilises}
use Rattle.message_links.specs.MailCores.{MailCore, MailRun}
use Rattle.firing_core.specs.Cores.{Core}
use Rattle.mail_drive.specs.Laws.{no_posts}
use Rattle.mail_lines.specs.MailLines.{mail_log}
use Rattle.edit_commands.specs.LineByLine.{AllLines}
use Rattle.mail_book.specs.MailViews.{quiet}
use Rattle.mail_count.specs.Laws.{IsGreatestMail}
use Rattle.session.specs.Promises.{HoldsField, field_on}
use Rattle.net_json.specs.Scenes.{SceneValue}
use Rattle.report.specs.Texts.{field_text, values_text}
use Rattle.report.specs.Verdicts.{rounds_text, verdict_text}
use Rattle.fc_values.specs.declared.limits.TheConstants.{MOST_BYTES}
use Rattle.command_frame.specs.Answers.{AnswerValue}
use Rattle.command_frame.specs.Causes.{Accepted}
use Rattle.command_frame.specs.Inputs.{ReadsInput}
use Rattle.command_frame.specs.Owing.{IsZero, OfThree, OfTwo, Owes}
use Rattle.command_frame.specs.Sections.{AreWithin}
use Rattle.command_frame.specs.Starts.{start_of}
use Rattle.fc_mail.specs.Commands.{AnswersMail}
use Rattle.fc_mail.specs.Mails.{Mailed, mail_entries_in}
use Rattle.fc_mail.specs.Drives.{Settles, driven_log}

-- The lines of a mail log lead from the scene, with nothing heard and nothing in transit, to a mail core whose values
-- are written, and behind them the greatest number of rounds in the log. Where the verdict is a yes, the program
-- stabilises over message links within its rounds; and where the number that is written is at least that of the yes,
-- each device holds its value of the one field that solves the program on the scene's network, and this field is what
-- is written.
pub record MailKeepsYes (program network log text : List ℕ) : Type 0 where
  pub unfolded : Unfolding
  pub scene : SceneValue
  pub reads : ReadsInput program network (Accepted (unfolded, scene))
  pub entries : Mailed
  pub lines : mail_log log ≡ AllLines entries
  pub last : MailCore
  pub leads : MailRun unfolded 0 (quiet (start_of scene)) (mail_entries_in entries) last
  pub rounds : ℕ
  pub counted : IsGreatestMail scene.net no_posts (mail_entries_in entries) rounds
  pub writes : text ≡ values_text last.core ++ rounds_text rounds
  pub stabilises : (k : ℕ) → verdict_of unfolded (length scene.net.devices) ≡ verdict.Yes k
      → MailStabilises unfolded scene.net k
  pub holds : (k : ℕ) (judged : verdict_of unfolded (length scene.net.devices) ≡ verdict.Yes k) → k ≤ rounds
      → HoldsField last.core (stabilises k judged).one.field
  pub shows : (k : ℕ) (judged : verdict_of unfolded (length scene.net.devices) ≡ verdict.Yes k) → k ≤ rounds
      → text ≡ field_text (field_on scene.net (stabilises k judged).one.field) ++ rounds_text rounds

-- The verdict is a yes, within whose rounds the program stabilises over message links. Once the flights of the scene
-- are ended, and with nothing heard and nothing in transit, the log that is driven by the number for as many rounds
-- leads to a mail core. Behind the line of the yes are written its values, and the greatest number of rounds in the
-- log: at least those of the yes, and where the network has a link no more. So each device holds its value of the one
-- field that solves the program on the scene's network, and this field is what is written.
pub record DrivenMailKeepsYes (number : ℕ) (program network text : List ℕ) : Type 0 where
  pub unfolded : Unfolding
  pub scene : SceneValue
  pub reads : ReadsInput program network (Accepted (unfolded, scene))
  pub rounds : ℕ
  pub yes : verdict_of unfolded (length scene.net.devices) ≡ verdict.Yes rounds
  pub core : Core
  pub settles : Settles unfolded scene core
  pub last : MailCore
  pub leads : MailRun unfolded 0 (quiet core) (driven_log number scene.net rounds) last
  pub count : ℕ
  pub counted : IsGreatestMail scene.net no_posts (driven_log number scene.net rounds) count
  pub enough : rounds ≤ count
  pub no_more : 1 ≤ length scene.net.links → count ≡ rounds
  pub writes : text ≡ verdict_text (verdict.Yes rounds) ++ values_text last.core ++ rounds_text count
  pub stabilises : MailStabilises unfolded scene.net rounds
  pub holds : HoldsField last.core stabilises.one.field
  pub shows : text ≡ verdict_text (verdict.Yes rounds)
      ++ field_text (field_on scene.net stabilises.one.field) ++ rounds_text count

-- What `mail` writes keeps a yes: of a log, where the rounds that are written are at least those of the yes, the values
-- are the one field; and with a number the values to which the number's log leads, which are the one field, stand behind
-- the line of the yes.
abbrev pub MailPromises : Option ℕ → List (List ℕ) → AnswerValue → Type 0
MailPromises None sections answer =
    OfThree (λ program network log. MailKeepsYes program network log answer.text) sections
MailPromises (Some number) sections answer =
    OfTwo (λ program network. DrivenMailKeepsYes number program network answer.text) sections

-- `mail` owes three sections an answer, and with a number two
abbrev pub MailOwes : Type 0
MailOwes =
    (number : Option ℕ) → Owes false (AreWithin MOST_BYTES) (λ sections j. AnswersMail number sections j) IsZero
    (λ sections answer. MailPromises number sections answer)
