use Rattle.std.proofs.Common.{ap, Err}
use Rattle.fc_program.proofs.Answering.{long_input}
use Rattle.fc_program.proofs.judging.input.Goals as goal

pub returns-in-Err-TooLong-clause-long : goal.returns-in-Err-TooLong-clause-long
returns-in-Err-TooLong-clause-long g c = λ none.
    let long = c.in-Err-TooLong.ensures.too_long (ap Err c.in-Err-TooLong.field-0-is) in
    long_input _ _ long.0 long.1 long.2
