use Rattle.std.proofs.Common.{◌≤◌, ◌⊎◌, drop}
use Rattle.std.specs.List.{All, Contains}
use Rattle.std.specs.BinaryHeap.{heap_items}
use Rattle.walks.specs.declared.types.WalkStep.{WalkStep}
use Rattle.walks.specs.Walks.{costs_of}
use Rattle.walks.specs.Tables.{AreCosts, IsCovered, AreDevices, left}
use Rattle.walks.proofs.settles.take_steps.Given as goal

abbrev pub invariant-loop-step : goal.invariant-loop-step
invariant-loop-step l = record {
  values : AreCosts (costs_of l.costs) l.values;
  waiting : AreDevices (costs_of l.costs) (heap_items l.waiting);
  covered : All (λ (s : WalkStep). IsCovered (costs_of l.costs) l.values (heap_items l.waiting) s ⊎ Contains (drop l.step-index l.step-items) s) l.costs.steps.items;
  less : left l.values (heap_items l.waiting) ≤ left l.fn.values (heap_items l.fn.waiting);
}
