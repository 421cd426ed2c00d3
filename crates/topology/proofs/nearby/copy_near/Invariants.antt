use Rattle.std.proofs.Common.{◌≡◌, take}
use Rattle.topology.proofs.nearby.copy_near.Given as goal

abbrev pub invariant-loop-one : goal.invariant-loop-one
invariant-loop-one l = l.copied.items ≡ take l.one-index l.one-items
