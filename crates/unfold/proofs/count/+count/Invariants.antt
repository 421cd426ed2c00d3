use Rattle.std.proofs.Common.{◌+◌, map}
use Rattle.fc_syntax.specs.Pieces.{weight, weights}
use Rattle.fc_syntax.specs.Terms.{term_of, terms}
use Rattle.unfold.proofs.count.+count.Given as goal

abbrev pub decreases-count : goal.decreases-count
decreases-count l = weight (term_of l.expr.now)

abbrev pub decreases-count_two : goal.decreases-count_two
decreases-count_two l = weight (term_of l.first.now) + weight (term_of l.second.now) + 1

abbrev pub decreases-count_all : goal.decreases-count_all
decreases-count_all l = weights (terms (map term_of l.args.now)) + 1

abbrev pub decreases-count_arguments : goal.decreases-count_arguments
decreases-count_arguments l = weights (terms (map term_of l.args.now)) + 1
