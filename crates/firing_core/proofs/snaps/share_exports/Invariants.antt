use Rattle.std.proofs.Common.{◌≡◌, take, map}
use Rattle.std.specs.Prelude.{option_map}
use Rattle.fc_values.specs.Exports.{export_of}
use Rattle.firing_core.proofs.snaps.share_exports.Given as goal

abbrev pub invariant-loop-export : goal.invariant-loop-export
invariant-loop-export l = map (option_map export_of) l.copies.items ≡ map (option_map export_of) (take l.export-index l.exports)
