use Rattle.walk_form.proofs.Costing.{costs_one}
use Rattle.walk_form.proofs.laws.one_costs.Goals as goal

pub returns : goal.returns
returns c = costs_one
