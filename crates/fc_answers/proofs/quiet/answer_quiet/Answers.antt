use Rattle.std.proofs.Common.{rules, Some}
use Rattle.std.proofs.lemmas.Result.{IfOk-weaker}
use Rattle.command_words.specs.declared.commands.Command.TheVariants as command
use Rattle.command_frame.specs.Code.{value_of}
use Rattle.fc_answers.specs.Answers.{AnswersSections}
use Rattle.fc_answers.proofs.Answering.{long_answered, made_answered}
use Rattle.fc_answers.proofs.quiet.answer_quiet.Goals as goal
use Rattle.fc_answers.proofs.quiet.answer_quiet.Goals.{in-Check, in-Changes, in-Stable, in-Replay, in-Format, in-Trace}
use Rattle.fc_answers.proofs.quiet.answer_quiet.Goals.{in-Mail}

pub returns-then-input-gt-MOST_BYTES : goal.returns-then-input-gt-MOST_BYTES
returns-then-input-gt-MOST_BYTES c =
    let answer = value_of c.in_ok-refuse.field-0 in
    let keep = c.answers_keep.ensures (Some (command.Quiet c.args.command)) c.args.input.now answer in
    let answers = long_answered (λ ss j. AnswersSections c.args.command ss j) c.args.input.now answer
    c.if-input-gt-MOST_BYTES.true c.in_ok-refuse.ensures in
    record { answers = answers; kept = keep answers }

pub returns : goal.returns
returns c =
    let keep = c.answers_keep.ensures (Some (command.Quiet c.args.command)) c.args.input.now in
    let answers = made_answered (λ ss j. AnswersSections c.args.command ss j) c.args.input.now
    c.if-input-gt-MOST_BYTES.false c.match-command.made c.or_stopped.result
    (elim c.match-command.branch [
      | in-Check w ↦ record { makes = search rules; refused = search rules }
      | in-Changes w ↦ record { makes = search rules; refused = search rules }
      | in-Stable w ↦ record { makes = search rules; refused = search rules }
      | in-Replay w ↦ record { makes = search rules; refused = search rules }
      | in-Format w ↦ record { makes = search rules; refused = search rules }
      | in-Trace w ↦ record { makes = search rules; refused = search rules }
      | in-Mail w ↦ record { makes = search rules; refused = search rules }
    ])
    c.or_stopped.ensures.made c.or_stopped.ensures.stopped in
    record { answers = answers; kept = IfOk-weaker c.or_stopped.result _ _ (λ a h. keep (value_of a) h) answers }
