use Rattle.std.proofs.Common.{◌≡◌, drop}
use Rattle.serde_json.specs.View.{view}
use Rattle.net_json.specs.Inputs.{has_names}
use Rattle.net_json.proofs.inputs.has_names.Given as goal

abbrev pub invariant-loop-input : goal.invariant-loop-input
invariant-loop-input l = has_names (drop l.input-index l.inputs) (view l.value) ≡ has_names l.inputs (view l.value)
