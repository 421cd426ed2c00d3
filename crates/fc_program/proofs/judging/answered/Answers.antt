use Rattle.std.proofs.Common.{rules, sym, Some}
use Rattle.command_words.specs.declared.commands.Command.TheVariants as command
use Rattle.command_frame.specs.Code.{value_of}
use Rattle.fc_program.proofs.Answering.{answer_few, answer_usage, for_usage}
use Rattle.fc_program.proofs.judging.answered.Goals as goal

pub returns-in_ok-refuse-in-None-clause-answers : goal.returns-in_ok-refuse-in-None-clause-answers
returns-in_ok-refuse-in-None-clause-answers g c =
    for_usage c.args.asked _ (value_of c.in_ok-refuse-in-None.field-0) (sym c.in-None.is)
    c.in_ok-refuse-in-None.ensures

pub returns-in-Some-Quiet-clause-usage : goal.returns-in-Some-Quiet-clause-usage
returns-in-Some-Quiet-clause-usage g c =
    answer_usage c.answer_statuses.ensures (Some (command.Quiet c.in-Some-Quiet.command)) _ c.quiet_answer.result
    c.quiet_answer.ensures.answers c.args.asked (search rules)

pub returns-in-Some-Quiet-clause-status : goal.returns-in-Some-Quiet-clause-status
returns-in-Some-Quiet-clause-status g c =
    answer_few c.answer_statuses.ensures (Some (command.Quiet c.in-Some-Quiet.command)) _ c.quiet_answer.result
    c.quiet_answer.ensures.answers

pub returns-in-Some-Threaded-clause-usage : goal.returns-in-Some-Threaded-clause-usage
returns-in-Some-Threaded-clause-usage g c =
    answer_usage c.answer_statuses.ensures (Some (command.Threaded c.in-Some-Threaded.command)) _ c.threaded_answer.result
    c.threaded_answer.ensures.answers c.args.asked (search rules)

pub returns-in-Some-Threaded-clause-status : goal.returns-in-Some-Threaded-clause-status
returns-in-Some-Threaded-clause-status g c =
    answer_few c.answer_statuses.ensures (Some (command.Threaded c.in-Some-Threaded.command)) _ c.threaded_answer.result
    c.threaded_answer.ensures.answers
