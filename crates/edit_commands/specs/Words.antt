-- Words of a line that number devices.
use Rattle.std.specs.Prelude.{ℕ, nat_le, if◌then◌else◌, List, Option, Some, None, option_and_then}
use Rattle.fc_values.specs.Numbers.{number_of}
use Rattle.topology.specs.declared.types.TheConstants.{GREATEST_NUMBER}

-- the number of a device that may join
abbrev pub if_device : ℕ → Option ℕ
if_device n = if nat_le n GREATEST_NUMBER then Some n else None

abbrev pub written_device : List ℕ → Option ℕ
written_device word = option_and_then if_device (number_of word)
