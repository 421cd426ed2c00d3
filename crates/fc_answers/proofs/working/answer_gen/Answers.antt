use Rattle.std.proofs.Common.{[], refl}
use Rattle.command_words.specs.declared.commands.Work.TheVariants.{Gen}
use Rattle.command_frame.specs.Causes.{Accepted}
use Rattle.command_frame.specs.Code.{value_of}
use Rattle.fc_answers.specs.Answers.{Works}
use Rattle.fc_answers.proofs.Owing.{works_keep}
use Rattle.fc_answers.proofs.working.answer_gen.Goals as goal

pub returns : goal.returns
returns g c =
    let answer = value_of c.in_ok-generate.field-0 in
    let works : Works (Gen c.args.options) [] answer =
    record { judged = Accepted answer; makes = c.in_ok-generate.ensures; is = refl } in
    record { works = works; kept = works_keep c.commands_owe.ensures (Gen c.args.options) [] answer works }
