use Rattle.std.proofs.Common.{take, map}
use Rattle.topology.specs.Networks.{numbers, net_device_of}
use Rattle.export_table.proofs.Rows.{first_kept}
use Rattle.export_table.proofs.agenda.Agenda.new.Goals as goal

pub invariant_of-result : goal.invariant_of-result
invariant_of-result c =
    first_kept c.args.rounds c.loop-device.rows.items (numbers (map net_device_of (take c.loop-device.device-index c.devices-devices.result.now))) c.loop-device.invariant
