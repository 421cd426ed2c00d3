use Rattle.std.proofs.Common.{◌∙◌, sym, map}
use Rattle.serde_json.specs.View.{view}
use Rattle.fc_values.specs.Values.{local_of}
use Rattle.net_json.specs.PlaceCode.{path_of}
use Rattle.net_json.proofs.InputFacts.{inputs_accepted}
use Rattle.net_json.proofs.inputs.read_inputs.Goals as goal

pub returns-clause-ok : goal.returns-clause-ok
returns-clause-ok c =
    let sized = sym c.has_size.ensures ∙ c.if-not-has_size.false in
    inputs_accepted (path_of c.args.here.now) (view c.args.value.now) c.args.inputs.now c.read_values-values.result (λ vs. map local_of vs.items) sized c.read_values-values.ensures.ok
