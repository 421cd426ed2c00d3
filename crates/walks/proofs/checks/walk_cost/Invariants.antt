use Rattle.std.proofs.Common.{drop}
use Rattle.walks.specs.Walks.{costs_of}
use Rattle.walks.proofs.Costing.{WalkLeft}
use Rattle.walks.proofs.checks.walk_cost.Given as goal

abbrev pub invariant-loop-next : goal.invariant-loop-next
invariant-loop-next l = WalkLeft (costs_of l.costs) l.fn.walk l.at l.cost (drop l.next-index l.rest)
