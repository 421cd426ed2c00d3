use Rattle.command_words.specs.declared.commands.Work.TheVariants.{Run, Gen}
use Rattle.command_frame.specs.Code.{value_of}
use Rattle.command_frame.specs.Sections.{WithThree}
use Rattle.fc_run.specs.Runs.{Runs}
use Rattle.fc_program.proofs.Answering.{for_gen, for_limit, for_work, of_long}
use Rattle.fc_program.proofs.judging.threaded_answer.Goals as goal

pub returns-in-Some-clause-answers : goal.returns-in-Some-clause-answers
returns-in-Some-clause-answers g c =
    for_limit c.args.command _ c.in-Some.refusal (value_of c.in_ok-refuse.field-0) c.in-Some.ensures
    c.in_ok-refuse.ensures

pub returns-in_ok-refuse-in-None-clause-answers : goal.returns-in_ok-refuse-in-None-clause-answers
returns-in_ok-refuse-in-None-clause-answers g c =
    let answer = value_of c.in_ok-refuse-in-None.field-0 in
    for_work c.args.command (Run c.in-Run.options) _ answer c.in_default.ensures c.in-Run.is
    (of_long (λ ss j. WithThree (Runs c.in-Run.options) ss j) _ answer
    (c.in_ok-bytes-in-Run.ensures.long c.in-None.is) c.in_ok-refuse-in-None.ensures)

pub returns-in_ok-answer_gen-in-Gen-clause-answers : goal.returns-in_ok-answer_gen-in-Gen-clause-answers
returns-in_ok-answer_gen-in-Gen-clause-answers g c =
    let answer = value_of c.in_ok-answer_gen-in-Gen.field-0 in
    for_work c.args.command (Gen c.in-Gen.options) _ answer c.in_default.ensures c.in-Gen.is
    (for_gen c.in-Gen.options _ answer c.in_ok-answer_gen-in-Gen.ensures.works)
