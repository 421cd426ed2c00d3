use Rattle.std.proofs.Common.{◌∙◌, ap, true, Some, if◌then◌else◌, nat_eq}
use Rattle.change_bounds.proofs.Keys.{put_number}
use Rattle.change_bounds.proofs.Presence.{one_device_more}
use Rattle.change_bounds.proofs.devices.scene_devices.Goals as goal

pub loop-device-preserved : goal.loop-device-preserved
loop-device-preserved c = λ d.
    put_number c.loop-device.table c.insert.new.self c.device-item.result.id d true c.in_ok-insert.ensures.updates
    ∙ ap (λ o. if nat_eq d c.device-item.result.id then Some true else o) (c.loop-device.invariant d)
    ∙ one_device_more c.devices-device-items.result.now c.loop-device.device-index c.device-item.result c.device-item.is
    c.loop-device-test.true d
