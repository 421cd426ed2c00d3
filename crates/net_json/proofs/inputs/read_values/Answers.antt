use Rattle.std.proofs.Common.{List, map, sym, ◌∙◌, ap}
use Rattle.std.proofs.lemmas.List.{drop_all}
use Rattle.fc_values.specs.Types.{Input}
use Rattle.fc_values.specs.Values.{local_of}
use Rattle.serde_json.specs.View.{view}
use Rattle.net_json.specs.PlaceCode.{path_of}
use Rattle.net_json.specs.Inputs.{values_judged}
use Rattle.net_json.proofs.InputFacts.{values_fit}
use Rattle.net_json.proofs.inputs.read_values.Goals as goal

pub returns-clause-fit : goal.returns-clause-fit
returns-clause-fit c = values_fit (path_of c.args.here.now) (view c.args.value.now) c.args.inputs.now (map local_of c.loop-one.values.items)
    (sym c.loop-one.invariant ∙ ap (λ (is : List Input). values_judged (path_of c.args.here.now) (view c.args.value.now) (map local_of c.loop-one.values.items) is) (drop_all c.loop-one.one-index c.args.inputs.now c.loop-one-test.false))
