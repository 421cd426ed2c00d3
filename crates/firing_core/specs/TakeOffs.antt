-- Copies that are put in flight as they are given.
use Rattle.std.specs.Prelude.{◌≡◌, Some, None}
use Rattle.fc_nodes.specs.Program.{Unfolding}
use Rattle.value_trees.specs.declared.copies.Snap.{Snap}
use Rattle.value_trees.specs.Snaps.{snap_copy}
use Rattle.topology.specs.Networks.{Lives}
use Rattle.firing_core.specs.Cores.{put, Core}

-- a copy is put in flight, of the device that it names, which is there and didn't fly
pub record TakesOff (U : Unfolding) (c : Core) (s : Snap) (next : Core) : Type 0 where
  pub there : Lives c.net s.device
  pub rests : c.flying s.device ≡ None
  pub after : next ≡ record { net = c.net; exports = c.exports; flying = put c.flying s.device (Some (snap_copy U s)) }
