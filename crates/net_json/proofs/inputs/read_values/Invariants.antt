use Rattle.std.proofs.Common.{◌≡◌, drop, map, []}
use Rattle.serde_json.specs.View.{view}
use Rattle.fc_values.specs.Values.{local_of}
use Rattle.net_json.specs.PlaceCode.{path_of}
use Rattle.net_json.specs.Inputs.{values_judged}
use Rattle.net_json.proofs.inputs.read_values.Given as goal

abbrev pub invariant-loop-one : goal.invariant-loop-one
invariant-loop-one l =
    values_judged (path_of l.here) (view l.value) (map local_of l.values.items) (drop l.one-index l.inputs)
    ≡ values_judged (path_of l.here) (view l.value) [] l.inputs
