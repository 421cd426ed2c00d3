use Rattle.std.proofs.Common.{◌+◌, ◌-◌, ◌*◌, length}
use Rattle.bound_firing.proofs.arguments.+held.Given as goal

abbrev pub decreases-held : goal.decreases-held
decreases-held l = 2 * (length l.context.now.program.now.nodes - l.place) + 1

abbrev pub decreases-held_component : goal.decreases-held_component
decreases-held_component l = 2 * (length l.context.now.program.now.nodes - l.place)
