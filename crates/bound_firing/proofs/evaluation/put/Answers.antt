use Rattle.std.proofs.lemmas.List.{map-set}
use Rattle.value_bounds.specs.References.{local_bound_in}
use Rattle.bound_firing.proofs.evaluation.put.Goals as goal

pub returns : goal.returns
returns c = map-set local_bound_in c.args.draft.now c.args.slot c.args.bound
