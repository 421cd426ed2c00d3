use Rattle.std.proofs.Common.{◌∙◌, refl, arith}
use Rattle.firing_core.proofs.RoomSteps.{blank_of}
use Rattle.firing_core.proofs.rooms.emptied.Goals as goal

pub returns : goal.returns
returns c = λ U k. blank_of U c.args.copy _ k refl refl (c.reserve.ensures.items ∙ c.clear.ensures.items) (omega (arith, c.in_ok-reserve.ensures.ok))
