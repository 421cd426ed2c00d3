use Rattle.command_frame.specs.Causes.{Refused}
use Rattle.command_frame.specs.Inputs.{ReadsInput}
use Rattle.command_frame.proofs.Stopping.{stop_is, stops_map}
use Rattle.command_frame.proofs.Unread.{unread}
use Rattle.fc_stable.specs.Stabilised.{Stabilised, StabilisesScene}
use Rattle.fc_stable.proofs.fields.of_texts.Goals as goal

pub returns-in_err-program-clause-refused : goal.returns-in_err-program-clause-refused
returns-in_err-program-clause-refused c =
    stop_is (λ cause. Stabilised c.args.program.now c.args.network.now (Refused cause)) c.from_residual.result _
    c.from_residual.ensures.1
    (stops_map (λ cause. ReadsInput c.args.program.now c.args.network.now (Refused cause)) _
    (λ cause k. unread StabilisesScene c.args.program.now c.args.network.now cause k) c.in_err-program.field-0.0
    c.in_err-program.ensures.refused)
