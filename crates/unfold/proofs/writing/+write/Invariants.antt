use Rattle.std.proofs.Common.{◌+◌, map}
use Rattle.fc_syntax.specs.Pieces.{weight, weights}
use Rattle.fc_syntax.specs.Terms.{term_of, terms}
use Rattle.fc_types.specs.Views.{known_of}
use Rattle.unfold.proofs.Weights.{seen}
use Rattle.unfold.proofs.writing.+write.Given as goal

abbrev pub decreases-write : goal.decreases-write
decreases-write l = seen (known_of l.around.now.known.now) l.around.now.visible + weight (term_of l.expr.now)

abbrev pub decreases-write_apply : goal.decreases-write_apply
decreases-write_apply l = seen (known_of l.around.now.known.now) l.around.now.visible + weights (terms (map term_of l.args.now)) + 3

abbrev pub decreases-write_all : goal.decreases-write_all
decreases-write_all l = seen (known_of l.around.now.known.now) l.around.now.visible + weights (terms (map term_of l.args.now)) + 1

abbrev pub decreases-write_nbr : goal.decreases-write_nbr
decreases-write_nbr l = seen (known_of l.around.now.known.now) l.around.now.visible + weight (term_of l.inner.now) + 1

abbrev pub decreases-write_rep : goal.decreases-write_rep
decreases-write_rep l = seen (known_of l.around.now.known.now) l.around.now.visible + weight (term_of l.first.now) + weight (term_of l.body.now) + 1

abbrev pub decreases-write_share : goal.decreases-write_share
decreases-write_share l = seen (known_of l.around.now.known.now) l.around.now.visible + weight (term_of l.first.now) + weight (term_of l.body.now) + 1

abbrev pub decreases-write_if : goal.decreases-write_if
decreases-write_if l = seen (known_of l.around.now.known.now) l.around.now.visible + weight (term_of l.condition.now) + weight (term_of l.then.now) + weight (term_of l.other.now) + 1

abbrev pub decreases-write_let : goal.decreases-write_let
decreases-write_let l = seen (known_of l.around.now.known.now) l.around.now.visible + weight (term_of l.bound.now) + weight (term_of l.body.now) + 1

abbrev pub decreases-write_one : goal.decreases-write_one
decreases-write_one l = seen (known_of l.around.now.known.now) l.around.now.visible + weights (terms (map term_of l.args.now)) + 3

abbrev pub decreases-write_call : goal.decreases-write_call
decreases-write_call l = seen (known_of l.around.now.known.now) l.around.now.visible + weights (terms (map term_of l.args.now)) + 4

abbrev pub decreases-write_argument : goal.decreases-write_argument
decreases-write_argument l = seen (known_of l.around.now.known.now) l.around.now.visible + weight (term_of l.arg.now) + weights (terms (map term_of l.rest.now)) + 4

abbrev pub decreases-write_given : goal.decreases-write_given
decreases-write_given l = seen (known_of l.around.now.known.now) l.around.now.visible + weights (terms (map term_of l.args.now)) + 3

abbrev pub decreases-write_body : goal.decreases-write_body
decreases-write_body l = seen (known_of l.known.now) l.visible + 1

abbrev pub decreases-write_bare_call : goal.decreases-write_bare_call
decreases-write_bare_call l = seen (known_of l.known.now) l.visible + 2
