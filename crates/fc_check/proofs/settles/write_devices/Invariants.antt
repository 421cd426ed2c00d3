use Rattle.std.proofs.Common.{◌≡◌, ◌++◌}
use Rattle.fc_check.proofs.Lines.{lines_from}
use Rattle.fc_check.proofs.settles.write_devices.Given as goal

abbrev pub invariant-loop-place : goal.invariant-loop-place
invariant-loop-place l =
    l.out.items ++ lines_from l.place l.device-items l.settled
    ≡ l.initial.out.items ++ lines_from 0 l.device-items l.settled
