use Rattle.std.proofs.Common.{◌∙◌, ap, arith}
use Rattle.topology.specs.Networks.{Network}
use Rattle.firing_core.specs.CoreViews.{CoreValue}
use Rattle.worker_pool.proofs.OneByOne.{device_many, device_number}
use Rattle.worker_pool.proofs.shorts.device_at.Goals as goal

pub returns : goal.returns
returns c =
    let e = c.devices.ensures.value ∙ ap (λ (n : Network). n.devices) (c.net.ensures.value ∙ ap (λ (v : CoreValue). v.net) c.core.ensures.value) in
    let m = device_many c.args.book.now.core.net c.devices.result.now e in
    device_number c.args.book.now.core.net c.devices.result.now c.args.place c.index-devices-place.result e (omega (arith, m, c.requires))
