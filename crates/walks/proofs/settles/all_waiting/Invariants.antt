use Rattle.std.proofs.Common.{ℕ}
use Rattle.std.specs.List.{AllWithin, Contains}
use Rattle.std.specs.BinaryHeap.{heap_items}
use Rattle.walks.specs.Walks.{costs_of}
use Rattle.walks.specs.Tables.{AreDevices}
use Rattle.walks.proofs.settles.all_waiting.Given as goal

abbrev pub invariant-loop-one : goal.invariant-loop-one
invariant-loop-one l = record {
  waits : AllWithin (λ (d : ℕ × ℕ). Contains (heap_items l.waiting) (record { 0 = (d.1, d.0) })) l.one-items 0 l.one-index;
  devices : AreDevices (costs_of l.costs) (heap_items l.waiting);
}
