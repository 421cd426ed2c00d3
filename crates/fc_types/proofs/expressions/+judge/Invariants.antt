use Rattle.std.proofs.Common.{◌≡◌, ◌+◌, ◌*◌, ◌≤◌, max, map, take}
use denote.Param.Weighed.{most}
use Rattle.fc_syntax.proofs.tree.Expr.TheLaws.{the_size}
use Rattle.fc_syntax.specs.Terms.{ApplyTerm, term_of, terms}
use Rattle.fc_values.specs.declared.builtins.Builtin.TheVariants as op
use Rattle.fc_values.specs.Types.{type_of}
use Rattle.fc_types.specs.Judging.{TypesAre, judge, judge_all}
use Rattle.fc_types.specs.Views.{known_of, scope_of}
use Rattle.fc_types.proofs.expressions.+judge.Given as goal

abbrev pub decreases-judge : goal.decreases-judge
decreases-judge l = 4 * the_size l.expr.now

abbrev pub decreases-judge_all : goal.decreases-judge_all
decreases-judge_all l = 4 * most the_size l.args.now + 1

abbrev pub decreases-judge_one : goal.decreases-judge_one
decreases-judge_one l = 4 * the_size l.arg.now + 1

abbrev pub decreases-judge_nots : goal.decreases-judge_nots
decreases-judge_nots l = 4 * most the_size l.args.now + 3

abbrev pub invariant-judge_nots-nots : goal.invariant-judge_nots-nots
invariant-judge_nots-nots l =
    (judge (known_of l.known) (scope_of l.scope) (ApplyTerm op.Not (terms (map term_of l.last))) ≡ judge (known_of l.known) (scope_of l.scope) (ApplyTerm op.Not (terms (map term_of l.args))))
    × (most the_size l.last ≤ most the_size l.args)

abbrev pub decreases-judge_nots-nots : goal.decreases-judge_nots-nots
decreases-judge_nots-nots l = most the_size l.last

abbrev pub decreases-judge_apply : goal.decreases-judge_apply
decreases-judge_apply l = 4 * most the_size l.args.now + 2

abbrev pub decreases-judge_call : goal.decreases-judge_call
decreases-judge_call l = 4 * most the_size l.args.now + 2

abbrev pub decreases-judge_nbr : goal.decreases-judge_nbr
decreases-judge_nbr l = 4 * the_size l.inner.now + 1

abbrev pub invariant-judge_all-loop-arg : goal.invariant-judge_all-loop-arg
invariant-judge_all-loop-arg l = judge_all (known_of l.known) (scope_of l.scope) (terms (map term_of (take l.arg-index l.args))) ≡ TypesAre (map type_of l.types.items)

abbrev pub decreases-judge_rep : goal.decreases-judge_rep
decreases-judge_rep l = 4 * max (the_size l.first.now) (the_size l.body.now) + 1

abbrev pub decreases-judge_share : goal.decreases-judge_share
decreases-judge_share l = 4 * max (the_size l.first.now) (the_size l.body.now) + 1

abbrev pub decreases-judge_branches : goal.decreases-judge_branches
decreases-judge_branches l = 4 * max (the_size l.condition.now) (max (the_size l.then.now) (the_size l.other.now)) + 1

abbrev pub decreases-judge_let : goal.decreases-judge_let
decreases-judge_let l = 4 * max (the_size l.bound.now) (the_size l.body.now) + 1
