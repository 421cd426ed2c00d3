use Rattle.std.proofs.Common.{◌≡◌, take, map}
use Rattle.topology.specs.Networks.{numbers, net_device_of}
use Rattle.export_table.specs.Agendas.{first_row}
use Rattle.export_table.proofs.agenda.Agenda.new.Given as goal

abbrev pub invariant-loop-device : goal.invariant-loop-device
invariant-loop-device l = l.rows.items ≡ map first_row (numbers (map net_device_of (take l.device-index l.devices)))
