use Rattle.std.proofs.Common.{◌≡◌, [], length, All}
use Rattle.std.specs.declared.alloc.Global.{Global}
use Rattle.std.specs.declared.vec.Vec.{Vec}
use Rattle.last_bounds.specs.declared.changes.Change.{Change}
use Rattle.last_bounds.proofs.changes.no_changes.Given as goal

abbrev pub invariant-loop : goal.invariant-loop
invariant-loop l = record {
  many : length l.changes.items ≡ l.counter;
  none : All (λ (cs : Vec Change Global). cs.items ≡ []) l.changes.items;
}
