use Rattle.fc_check.proofs.Checking as proof
use Rattle.fc_check.proofs.laws.check_owes.Goals as goal

pub returns : goal.returns
returns c =
    proof.check_owes c.inputs_are_read.ensures c.yes_stabilises.ensures c.one_start_within.ensures
    c.starts_hold_within.ensures c.settle_times_hold.ensures c.start_times_hold.ensures
