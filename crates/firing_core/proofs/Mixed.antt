-- Crates above cite this module: an edit among firings keeps the numbers of the devices.
use Rattle.std.proofs.Common.{◌≡◌, refl}
use Rattle.fc_nodes.specs.Program.{Unfolding}
use Rattle.topology.specs.Networks.{numbers}
use Rattle.topology.proofs.Lemmas.{put_numbers}
use Rattle.firing_core.specs.Cores.{Core, edited}
use Rattle.firing_core.specs.Entries.{EditValue, LinkEdit, UnlinkEdit, SetEdit, PokeEdit, JoinEdit, LeaveEdit}
use Rattle.firing_core.specs.Stretches.{IsMixed}

pub mixed_numbers : (U : Unfolding) (c : Core) (e : EditValue) → IsMixed e → numbers (edited U c e).net.devices ≡ numbers c.net.devices
mixed_numbers U c (LinkEdit a b w) m = refl
mixed_numbers U c (UnlinkEdit a b) m = refl
mixed_numbers U c (SetEdit d i v) m = put_numbers d i v c.net.devices
mixed_numbers U c (PokeEdit d x) m = refl
mixed_numbers U c (JoinEdit x) m = absurd m
mixed_numbers U c (LeaveEdit d) m = absurd m
