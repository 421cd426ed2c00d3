use Rattle.value_trees.proofs.FilledLists as filled
use Rattle.value_trees.proofs.laws.lists_have_exports.Goals as goal

pub returns : goal.returns
returns c = filled.lists_have_exports
