use Rattle.std.proofs.Common.{◌+◌, ◌*◌, ◌-◌, length}
use Rattle.worker_pool.proofs.fan.+fan.Given as goal

abbrev pub decreases-fan : goal.decreases-fan
decreases-fan g l = 3 * length l.rooms.now

abbrev pub decreases-both : goal.decreases-both
decreases-both g l = 3 * (length l.first.now + length l.second.now) - 1

abbrev pub decreases-both-join_mut+arg2 : goal.decreases-both-join_mut+arg2
decreases-both-join_mut+arg2 g l = 3 * length l.first.now + 1

abbrev pub decreases-both-join_mut+arg3 : goal.decreases-both-join_mut+arg3
decreases-both-join_mut+arg3 g l = 3 * length l.second.now + 1
