use Rattle.std.proofs.Common.{rules}
use Rattle.std.proofs.lemmas.Result.{IfOk-weaker}
use Rattle.command_words.specs.declared.commands.Work.TheVariants.{Run}
use Rattle.command_frame.specs.Code.{value_of}
use Rattle.command_frame.specs.Sections.{WithThree}
use Rattle.fc_run.specs.Runs.{Runs}
use Rattle.fc_answers.proofs.Answering.{long_answered, made_answered}
use Rattle.fc_answers.proofs.Owing.{works_keep}
use Rattle.fc_answers.proofs.working.answer_run.Goals as goal

pub returns-then-input-gt-MOST_BYTES : goal.returns-then-input-gt-MOST_BYTES
returns-then-input-gt-MOST_BYTES g c =
    let answer = value_of c.in_ok-refuse.field-0 in
    let keep = works_keep c.commands_owe.ensures (Run c.args.options) c.args.input.now answer in
    let works = long_answered (λ ss j. WithThree (Runs c.args.options) ss j) c.args.input.now answer
    c.if-input-gt-MOST_BYTES.true c.in_ok-refuse.ensures in
    record { works = works; kept = keep works }

pub returns : goal.returns
returns g c =
    let keep = works_keep c.commands_owe.ensures (Run c.args.options) c.args.input.now in
    let works = made_answered (λ ss j. WithThree (Runs c.args.options) ss j) c.args.input.now
    c.if-input-gt-MOST_BYTES.false c.run.result c.or_stopped.result
    (record { makes = search rules; refused = search rules }) c.or_stopped.ensures.made c.or_stopped.ensures.stopped in
    record { works = works; kept = IfOk-weaker c.or_stopped.result _ _ (λ a h. keep (value_of a) h) works }
