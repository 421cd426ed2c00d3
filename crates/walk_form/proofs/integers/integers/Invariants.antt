use Rattle.std.proofs.Common.{◌≡◌, map, take}
use Rattle.fc_values.specs.Fields.{entry_of}
use Rattle.walk_form.specs.Fields.{integers_in}
use Rattle.walk_form.proofs.integers.integers.Given as goal

abbrev pub invariant-loop-device : goal.invariant-loop-device
invariant-loop-device l = l.list.items ≡ integers_in (map entry_of (take l.device-index l.field))
