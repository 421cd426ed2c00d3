-- What `mail` owes.
use Rattle.std.proofs.Common.{ℕ, ◌≡◌, ◌≤◌, ◌⊎◌, Bool, true, false, List, length, refl, arith, inl, inr, Some, None}
use Rattle.std.specs.Prelude.{nat_lt}
use Rattle.fc_nodes.specs.Program.{Unfolding, unfolding_of}
use Rattle.fc_nodes.specs.declared.verdicts.Verdict.{Verdict}
use Rattle.fc_nodes.specs.declared.verdicts.Verdict.TheVariants as verdict
use Rattle.firing_core.specs.Laws.{FaultlessStep, LogsLeadToOne, RunsKeepGood, StepsKeepGood}
use Rattle.fragment_check.specs.Verdicts.{verdict_of}
use Rattle.message_links.specs.MailCores.{MailCore, MailEntryValue}
use Rattle.mail_laws.specs.Laws.{YesStabilisesMail}
use Rattle.mail_drive.specs.Laws.{DrivenLeads, DrivenRounds, NoMoreRounds}
use Rattle.mail_lines.specs.MailLines.{mail_log}
use Rattle.mail_book.proofs.QuietStarts.{quiet_start}
use Rattle.mail_book.specs.MailLaws.{MailLogsEnd, MailLogsFailOnce, MailLogsLeadOrFail, MailLogsLeadToOne}
use Rattle.mail_book.specs.MailViews.{quiet}
use Rattle.mail_count.specs.Laws.{SomeGreatestMail}
use Rattle.edit_commands.specs.LineByLine.{Lines, AllLines, StopsAt}
use Rattle.net_json.specs.Scenes.{SceneValue}
use Rattle.command_frame.specs.declared.refusal.LineFault.TheVariants as line_fault
use Rattle.command_frame.specs.Answers.{AnswerValue}
use Rattle.command_frame.specs.Causes.{Judged, Accepted}
use Rattle.command_frame.specs.Owing.{HasStatus, IsZero}
use Rattle.command_frame.specs.Starts.{InputsAreRead, start_of}
use Rattle.command_frame.proofs.Owed.{OwesScenes, plain_status, refused_status, texts_owe, three_owe, two_owe, zero_low}
use Rattle.command_frame.proofs.RefusalStatuses.{by_four, log_status}
use Rattle.fc_mail.specs.declared.driven.TheConstants.{MOST_MESSAGES}
use Rattle.fc_mail.specs.Drives.{DrivesBy, DrivesMail, DrivesScene, DrivesWithin, messages}
use Rattle.fc_mail.specs.Mails.{Mails, MailsLines, MailsScene}
use Rattle.fc_mail.specs.Promises.{DrivenMailKeepsYes, MailKeepsYes, MailOwes}
use Rattle.fc_mail.proofs.DrivenEndings.{one_driven_by, some_driven_by}
use Rattle.fc_mail.proofs.KeptYes.{by_lines, by_verdict}
use Rattle.fc_mail.proofs.MailEndings.{one_lines, some_lines}

-- ---- statuses
lines_have_status : (U : Unfolding) (start : MailCore) (lines : Lines (Unit {0}) MailEntryValue) (j : Judged AnswerValue)
    → MailsLines U start lines j → HasStatus j
lines_have_status U start (StopsAt at tt) j e = refused_status j _ (log_status at line_fault.Form) e
lines_have_status U start (AllLines log) j (inl shows) = plain_status j 0 _ (omega arith) shows.is
lines_have_status U start (AllLines log) j (inr stops) = refused_status j _ (log_status _ stops.why) stops.is

drives_have_status : (number : ℕ) (v : Verdict) (U : Unfolding) (s : SceneValue) (j : Judged AnswerValue)
    → DrivesBy number v U s j → HasStatus j
drives_have_status number (verdict.No place why) U s j e = plain_status j 1 _ (omega arith) e
drives_have_status number (verdict.Yes rounds) U s j h = by_limit (nat_lt MOST_MESSAGES (messages s.net rounds)) h
  where
    by_limit : (b : Bool) → DrivesWithin b number U s rounds j → HasStatus j
    by_limit true e = refused_status j _ by_four e
    by_limit false k = plain_status j 0 _ (omega arith) k.is

-- ---- a log
module _ (laws : InputsAreRead) (one : MailLogsLeadToOne) (once : MailLogsFailOnce) (either : MailLogsLeadOrFail)
    (ends : MailLogsEnd) (greatest : SomeGreatestMail) (law : YesStabilisesMail) (log : List ℕ) where
  pub log_owes : OwesScenes false (λ U s j. MailsScene U s log j) IsZero
      (λ program network a. MailKeepsYes program network log a.text)
  log_owes = record {
    some = λ Q s is good.
        some_lines ends greatest Q is (quiet (start_of s)) (quiet_start (unfolding_of Q) (start_of s) good) (mail_log log);
    one = λ Q s is good j k h g.
        one_lines one once either Q is (quiet (start_of s)) (quiet_start (unfolding_of Q) (start_of s) good)
        (mail_log log) j k h g;
    statuses = λ U s j h. lines_have_status U (quiet (start_of s)) (mail_log log) j h;
    low = zero_low;
    keeps = λ program network i reads a h zero. by_lines laws law program network log a i reads (mail_log log) refl h;
  }

-- ---- a number
module _ (laws : InputsAreRead) (cores : LogsLeadToOne) (mails : MailLogsLeadToOne) (runs : RunsKeepGood)
    (free : FaultlessStep) (keep : StepsKeepGood) (leads : DrivenLeads) (greatest : SomeGreatestMail)
    (law : YesStabilisesMail) (covers : DrivenRounds) (most : NoMoreRounds) (number : ℕ) where
  pub number_owes : OwesScenes false (λ U s j. DrivesScene number U s j) IsZero
      (λ program network a. DrivenMailKeepsYes number program network a.text)
  number_owes = record {
    some = λ Q s is good.
        some_driven_by free keep leads greatest number Q is s good (verdict_of (unfolding_of Q) (length s.net.devices));
    one = λ Q s is good j k h g.
        one_driven_by cores mails number Q is s good runs j k (verdict_of (unfolding_of Q) (length s.net.devices)) h g;
    statuses = λ U s j h. drives_have_status number (verdict_of U (length s.net.devices)) U s j h;
    low = zero_low;
    keeps = λ program network i reads a h zero.
        by_verdict laws law runs covers most number program network a zero i reads
        (verdict_of i.0 (length i.1.net.devices)) refl h;
  }

pub mail_owes : InputsAreRead → MailLogsLeadToOne → MailLogsFailOnce → MailLogsLeadOrFail → MailLogsEnd → LogsLeadToOne
    → StepsKeepGood → RunsKeepGood → SomeGreatestMail → FaultlessStep → DrivenLeads → YesStabilisesMail → DrivenRounds
    → NoMoreRounds → MailOwes
mail_owes laws one once either ends cores keep runs greatest free leads law covers most None =
    three_owe false Mails IsZero (λ program network log a. MailKeepsYes program network log a.text)
    (λ log. texts_owe laws false (λ U s j. MailsScene U s log j) IsZero
    (λ program network a. MailKeepsYes program network log a.text)
    (log_owes laws one once either ends greatest law log))
mail_owes laws one once either ends cores keep runs greatest free leads law covers most (Some number) =
    two_owe false (DrivesMail number) IsZero (λ program network a. DrivenMailKeepsYes number program network a.text)
    (texts_owe laws false (λ U s j. DrivesScene number U s j) IsZero
    (λ program network a. DrivenMailKeepsYes number program network a.text)
    (number_owes laws cores one runs free keep leads greatest law covers most number))
