use Rattle.std.proofs.Common.{◌≡◌, ◌++◌, map, take}
use Rattle.walks.specs.Gathering.{added_of, step_to}
use Rattle.walks.proofs.gathers.push_steps.Given as goal

abbrev pub invariant-loop-one : goal.invariant-loop-one
invariant-loop-one l = l.steps.items ≡ l.fn.steps.items ++ map (step_to (added_of l.add) l.device) (take l.one-index l.one-items)
