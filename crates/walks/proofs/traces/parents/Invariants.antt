use Rattle.std.proofs.Common.{◌<◌, ◌≤◌, ℕ, length, get_or}
use Rattle.std.specs.List.{AllWithin}
use Rattle.walks.specs.Walks.{costs_of}
use Rattle.walks.specs.Tables.{IsParent}
use Rattle.walks.proofs.traces.parents.Given as goal

abbrev pub invariant-loop-one : goal.invariant-loop-one
invariant-loop-one l = record {
  parents : AllWithin (λ (d : ℕ × ℕ). (d.0 < length l.parents.items) × IsParent (costs_of l.costs) d.0 (get_or l.parents.items d.0 0)) l.one-items 0 l.one-index;
  short : AllWithin (λ (d : ℕ × ℕ). length l.parents.items ≤ d.0) l.one-items l.one-index (length l.one-items);
}
