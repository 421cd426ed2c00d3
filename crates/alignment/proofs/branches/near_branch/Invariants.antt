use Rattle.std.proofs.Common.{◌≡◌, ◌≤◌, drop, filter, length, ◌++◌}
use Rattle.alignment.specs.Slots.{NearSlots, slot_keeps, NearHave}
use Rattle.alignment.specs.References.{nears_of}
use Rattle.alignment.proofs.branches.near_branch.Given as goal

abbrev pub invariant-loop-n : goal.invariant-loop-n
invariant-loop-n l = record {
  have : NearHave l.slot (nears_of (drop l.n-index l.all));
  so_far : nears_of l.near.items
      ++ filter (λ (n : NearSlots). slot_keeps l.slot l.truth n.2) (nears_of (drop l.n-index l.all))
      ≡ filter (λ (n : NearSlots). slot_keeps l.slot l.truth n.2) (nears_of l.all);
  fewer : length l.near.items ≤ l.n-index;
}
