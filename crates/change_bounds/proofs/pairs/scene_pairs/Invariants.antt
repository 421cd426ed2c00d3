use Rattle.std.proofs.Common.{◌≡◌, ℕ, map, take}
use Rattle.std.specs.BTreeMap.{get}
use Rattle.topology.specs.Networks.{edge_of}
use Rattle.change_bounds.specs.Tables.{by_pair}
use Rattle.change_bounds.proofs.Told.{scene_pair}
use Rattle.change_bounds.proofs.pairs.scene_pairs.Given as goal

abbrev pub invariant-loop-link : goal.invariant-loop-link
invariant-loop-link l = (x y : ℕ) → get by_pair l.table (x, y) ≡ scene_pair (map edge_of (take l.link-index l.link-items)) x y
