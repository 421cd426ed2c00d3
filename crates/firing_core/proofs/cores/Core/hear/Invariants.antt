use Rattle.std.proofs.Common.{◌≡◌, ◌++◌, ◌≤◌, drop, map, length, vec_capacity}
use Rattle.value_trees.specs.Snaps.{near_copy, NearAreExports}
use Rattle.topology.specs.Networks.{near}
use Rattle.firing_core.specs.Cores.{near_copies}
use Rattle.firing_core.specs.CoreViews.{core_of, program_of}
use Rattle.firing_core.proofs.cores.Core.hear.Given as goal

abbrev pub invariant-loop-neighbour : goal.invariant-loop-neighbour
invariant-loop-neighbour l = record {
  copies : map (near_copy (program_of l.self)) l.near.items ++ near_copies (core_of l.self).exports (drop l.neighbour-index l.neighbour-items) ≡ near_copies (core_of l.self).exports (near l.self.net l.device);
  exports : NearAreExports (program_of l.self) l.near.items;
  few : length l.near.items ≤ l.neighbour-index;
  room : length l.neighbour-items ≤ vec_capacity l.near;
}
