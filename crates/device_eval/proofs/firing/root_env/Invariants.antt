use Rattle.std.proofs.Common.{◌≡◌, drop, length, map, ◌++◌}
use Rattle.alignment.specs.References.{nears_of}
use Rattle.device_eval.specs.References.{snap_near}
use Rattle.device_eval.proofs.firing.root_env.Given as goal

abbrev pub invariant-loop-n : goal.invariant-loop-n
invariant-loop-n l = record {
  near : nears_of l.near.items ++ map snap_near (drop l.n-index l.n-items) ≡ map snap_near l.snap.near.items;
  long : length l.near.items ≡ l.n-index;
}
