use Rattle.std.proofs.Common.{◌+◌, ◌*◌, ◌-◌}
use Rattle.turn_lock.proofs.notes.+fan.Given as goal

abbrev pub decreases-fan : goal.decreases-fan
decreases-fan g l = 3 * l.writers

abbrev pub decreases-fan_both : goal.decreases-fan_both
decreases-fan_both g l = 3 * (l.first + l.second) - 1

abbrev pub decreases-fan_both-join_mut+arg2 : goal.decreases-fan_both-join_mut+arg2
decreases-fan_both-join_mut+arg2 g l = 3 * l.first + 1

abbrev pub decreases-fan_both-join_mut+arg3 : goal.decreases-fan_both-join_mut+arg3
decreases-fan_both-join_mut+arg3 g l = 3 * l.second + 1
