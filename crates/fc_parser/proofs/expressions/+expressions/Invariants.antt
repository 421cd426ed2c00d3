use Rattle.std.proofs.Common.{◌≡◌, ◌+◌, ◌-◌, ◌*◌, ◌≤◌, map}
use Rattle.fc_lexer.specs.declared.tokens.Mark.TheVariants as mark
use Rattle.fc_syntax.specs.Terms.{term_of}
use Rattle.fc_parser.specs.Reading.{Got, ◌>>=◌}
use Rattle.fc_parser.specs.Expressions.{kinds_of, mark_read, more_with, arguments_with, atom_with, chain_with, operations_with, expression_at}
use Rattle.fc_parser.proofs.ExpressionLoops.{behind, onto}
use Rattle.fc_parser.proofs.expressions.+expressions.Given as goal

abbrev pub decreases-expression_within : goal.decreases-expression_within
decreases-expression_within l = 20 * l.budget

abbrev pub decreases-binding : goal.decreases-binding
decreases-binding l = 20 * l.budget + 1

abbrev pub decreases-enclosed : goal.decreases-enclosed
decreases-enclosed l = 20 * l.budget + 1

abbrev pub decreases-bracketed : goal.decreases-bracketed
decreases-bracketed l = 20 * l.budget + 1

abbrev pub decreases-arguments : goal.decreases-arguments
decreases-arguments l = 20 * l.budget + 1

abbrev pub decreases-fold : goal.decreases-fold
decreases-fold l = 20 * l.budget + 2

abbrev pub decreases-choice : goal.decreases-choice
decreases-choice l = 20 * l.budget + 2

abbrev pub decreases-builtin : goal.decreases-builtin
decreases-builtin l = 20 * l.budget + 2

abbrev pub decreases-named : goal.decreases-named
decreases-named l = 20 * l.budget + 2

abbrev pub decreases-word_form : goal.decreases-word_form
decreases-word_form l = 20 * l.budget + 3

abbrev pub decreases-atom : goal.decreases-atom
decreases-atom l = 20 * l.budget + 4

abbrev pub decreases-unary : goal.decreases-unary
decreases-unary l = 20 * l.budget + 5

abbrev pub decreases-operations : goal.decreases-operations
decreases-operations l = 20 * l.budget + (12 - l.strength)

abbrev pub invariant-arguments-turns : goal.invariant-arguments-turns
invariant-arguments-turns l =
    (more_with (expression_at l.second l.budget) l.turns (kinds_of l.rest) >>= λ es c. mark_read mark.CloseRound c >>= λ _ d. Got (onto (map term_of l.args.items) es) d)
    ≡ arguments_with (expression_at l.second l.budget) (kinds_of l.fn.tokens)

abbrev pub decreases-arguments-turns : goal.decreases-arguments-turns
decreases-arguments-turns l = l.turns

abbrev pub invariant-expression_within-bindings : goal.invariant-expression_within-bindings
invariant-expression_within-bindings l = record {
  within : l.left ≤ l.budget;
  same : behind l.bindings.items (expression_at l.second l.left (kinds_of l.rest)) ≡ expression_at l.second l.budget (kinds_of l.fn.tokens);
}

abbrev pub decreases-expression_within-bindings : goal.decreases-expression_within-bindings
decreases-expression_within-bindings l = l.left

abbrev pub invariant-operations-turns : goal.invariant-operations-turns
invariant-operations-turns l =
    chain_with l.strength (operations_with (atom_with l.second (expression_at l.second l.budget)) (l.strength + 1)) l.turns (term_of l.target) (kinds_of l.rest)
    ≡ operations_with (atom_with l.second (expression_at l.second l.budget)) l.strength (kinds_of l.fn.tokens)

abbrev pub decreases-operations-turns : goal.decreases-operations-turns
decreases-operations-turns l = l.turns
