use Rattle.command_frame.specs.Code.{value_of}
use Rattle.fc_answers.specs.Answers.{AnswersSections}
use Rattle.fc_program.proofs.Answering.{of_long}
use Rattle.fc_program.proofs.judging.quiet_answer.Goals as goal

pub returns-in_ok-refuse-in-None-clause-answers : goal.returns-in_ok-refuse-in-None-clause-answers
returns-in_ok-refuse-in-None-clause-answers g c =
    of_long (λ ss j. AnswersSections c.args.command ss j) _ (value_of c.in_ok-refuse-in-None.field-0)
    (c.in_ok-bytes.ensures.long c.in-None.is) c.in_ok-refuse-in-None.ensures
