use Rattle.value_trees.proofs.PlainLists.{plain_misfit}
use Rattle.value_trees.proofs.laws.plain_lists_misfit_as_values.Goals as goal

pub returns : goal.returns
returns c = λ U vs. plain_misfit U vs
