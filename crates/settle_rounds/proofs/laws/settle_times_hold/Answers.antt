use Rattle.settle_rounds.proofs.Times.{settle_times_hold}
use Rattle.settle_rounds.proofs.laws.settle_times_hold.Goals as goal

pub returns : goal.returns
returns c = settle_times_hold c.bounds_reach.ensures c.bounds_reach_mail.ensures c.rounds_settle.ensures
    c.yes_leaves.ensures c.yes_stabilises.ensures c.yes_stabilises_mail.ensures
