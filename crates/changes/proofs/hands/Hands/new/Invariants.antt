use Rattle.std.proofs.Common.{◌+◌, ◌≤◌, drop, length, map}
use Rattle.changes.specs.Code.{line_in}
use Rattle.changes.specs.Hand.{said}
use Rattle.changes.specs.Kept.{IsHandOf}
use Rattle.changes.proofs.hands.Hands.new.Given as goal

abbrev pub invariant-loop-at : goal.invariant-loop-at
invariant-loop-at l = record { within : l.at ≤ length l.lines; hand : IsHandOf l.network (said (map line_in (drop l.at l.lines))) l.all }

abbrev pub decreases-loop-at : goal.decreases-loop-at
decreases-loop-at l = l.at

abbrev pub ghost-add_line : goal.ghost-add_line
ghost-add_line a = said (map line_in (drop (a.at + 1) a.lines.now))
