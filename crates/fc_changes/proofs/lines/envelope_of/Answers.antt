use Rattle.std.proofs.Common.{map}
use Rattle.std.proofs.lemmas.Result.{IfOk-weaker}
use Rattle.changes.specs.Code.{line_in}
use Rattle.changes.specs.Hand.{said}
use Rattle.fc_changes.proofs.Envelopes.{some_devices}
use Rattle.fc_changes.proofs.lines.envelope_of.Goals as goal

pub returns-clause-some : goal.returns-clause-some
returns-clause-some c =
    IfOk-weaker c.envelope_of_changes.result _ _
    (λ e is. some_devices c.args.net.now (said (map line_in c.args.lines.now)) e c.devices-devices.ensures.network is)
    c.envelope_of_changes.ensures
