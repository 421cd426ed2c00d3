use Rattle.std.proofs.Common.{◌≡◌, ◌++◌, map, drop}
use Rattle.serde_json.specs.View.{view}
use Rattle.fc_values.specs.Exports.{slots_of}
use Rattle.net_json.specs.Placing.{placed_slots}
use Rattle.net_json.specs.TableTexts.{placed_data}
use Rattle.net_json.proofs.texts.kept_value.Given as goal

abbrev pub invariant-loop-i : goal.invariant-loop-i
invariant-loop-i l =
    map view l.list.items ++ map placed_data (placed_slots (drop l.i l.places) (slots_of (drop l.i l.slots)))
    ≡ map placed_data (placed_slots l.places (slots_of l.slots))
