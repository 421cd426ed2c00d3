-- What each command owes.
use Rattle.command_words.specs.declared.commands.Quiet.{Quiet}
use Rattle.command_words.specs.declared.commands.Quiet.TheVariants.{Check, Changes, Stable, Replay, Format, Trace, Mail}
use Rattle.std.proofs.Common.{false}
use Rattle.fc_values.specs.declared.limits.TheConstants.{MOST_BYTES}
use Rattle.command_frame.specs.Owing.{Owes}
use Rattle.command_frame.specs.Sections.{AreWithin}
use Rattle.fc_check.specs.Promises.{CheckOwes}
use Rattle.fc_changes.specs.Promises.{ChangesOwe}
use Rattle.fc_stable.specs.Promises.{StableOwes}
use Rattle.fc_replay.specs.Promises.{ReplayOwes}
use Rattle.fc_format.specs.Formats.{FormatOwes}
use Rattle.fc_trace.specs.Promises.{TraceOwes}
use Rattle.fc_mail.specs.Promises.{MailOwes}
use Rattle.fc_run.specs.Promises.{RunOwes}
use Rattle.fc_gen.specs.Promises.{GenOwes}
use Rattle.fc_answers.specs.Answers.{AnswersSections}
use Rattle.fc_answers.specs.Headline.{IsAnswered, Promises}
use Rattle.fc_answers.specs.Laws.{CommandsOwe}

module _ (check : CheckOwes) (changes : ChangesOwe) (stable : StableOwes) (replay : ReplayOwes) (format : FormatOwes)
    (trace : TraceOwes) (mail : MailOwes) where
  quiet_owes : (quiet : Quiet) → Owes false (AreWithin MOST_BYTES) (λ sections j. AnswersSections quiet sections j)
      (IsAnswered quiet) (λ sections answer. Promises quiet sections answer)
  quiet_owes (Check options) = check options
  quiet_owes (Changes options) = changes options
  quiet_owes Stable = stable
  quiet_owes (Replay options) = replay options
  quiet_owes Format = format
  quiet_owes Trace = trace
  quiet_owes (Mail options) = mail options.number

  pub commands_owe : RunOwes → GenOwes → CommandsOwe
  commands_owe run gen = record { quiet = quiet_owes; run = run; gen = gen }
