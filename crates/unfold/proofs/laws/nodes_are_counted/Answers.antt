use Rattle.std.proofs.Common.{◌∙◌}
use Rattle.unfold.specs.Unfolding.{main_term}
use Rattle.unfold.proofs.Sizes.{listed_long, main_size}
use Rattle.unfold.proofs.laws.nodes_are_counted.Goals as goal

pub returns : goal.returns
returns c = λ ds. listed_long (main_term ds) 0 ∙ main_size ds
