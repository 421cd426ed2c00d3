use Rattle.settle_rounds.proofs.Times.{start_times_hold}
use Rattle.settle_rounds.proofs.laws.start_times_hold.Goals as goal

pub returns : goal.returns
returns c = start_times_hold c.starts_hold_within.ensures c.bounds_reach_from.ensures c.rounds_settle.ensures
    c.yes_leaves_from.ensures c.yes_stabilises.ensures
