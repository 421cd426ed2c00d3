-- The texts that loops write.
use Rattle.std.proofs.Common.{ℕ, List, map, flat_map, Some, option_map}
use Rattle.fc_values.specs.declared.values.Local.{Local}
use Rattle.fc_values.specs.Fields.{entry_of as field_entry}
use Rattle.fc_values.specs.Values.{LocalValue}
use Rattle.topology.specs.declared.types.Device.{Device}
use Rattle.topology.specs.Networks.{NetDevice, net_device_of}
use Rattle.firing_core.specs.Cores.{Core}
use Rattle.report.specs.Texts.{device_line, export_value}

-- ---- the lines of fields and devices

abbrev pub field_line : ℕ × LocalValue → List ℕ
field_line e = device_line e.0 (Some e.1)

abbrev pub fields_of : List (ℕ × Local) → List ℕ
fields_of xs = flat_map field_line (map field_entry xs)

abbrev pub core_line : Core → NetDevice → List ℕ
core_line core d = device_line d.id (option_map export_value (core.exports d.id))

abbrev pub devices_of : Core → List Device → List ℕ
devices_of core xs = flat_map (core_line core) (map net_device_of xs)
