use Rattle.std.specs.List.{All}
use Rattle.std.specs.BinaryHeap.{heap_items}
use Rattle.walks.specs.Walks.{costs_of}
use Rattle.walks.specs.Tables.{AreCosts, IsCovered, AreDevices, left}
use Rattle.walks.proofs.settles.least_costs.Given as goal

abbrev pub invariant-loop-value : goal.invariant-loop-value
invariant-loop-value l = record {
  values : AreCosts (costs_of l.costs) l.values.items;
  waiting : AreDevices (costs_of l.costs) (heap_items l.waiting);
  covered : All (IsCovered (costs_of l.costs) l.values.items (heap_items l.waiting)) l.costs.steps.items;
}

abbrev pub decreases-loop-value : goal.decreases-loop-value
decreases-loop-value l = left l.values.items (heap_items l.waiting)
