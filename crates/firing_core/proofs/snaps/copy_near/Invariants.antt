use Rattle.std.proofs.Common.{◌≡◌, take, map}
use Rattle.firing_core.specs.CoreViews.{near_view}
use Rattle.firing_core.proofs.snaps.copy_near.Given as goal

abbrev pub invariant-loop-near : goal.invariant-loop-near
invariant-loop-near l = map near_view l.copies.items ≡ map near_view (take l.near-index l.all)
