use Rattle.std.proofs.Common.{◌≡◌, ◌++◌}
use Rattle.fc_syntax.specs.Terms.{term_of}
use Rattle.fc_syntax.specs.Text.{text}
use Rattle.fc_syntax.specs.Pieces.{pieces_weight, stack_text}
use Rattle.fc_syntax.proofs.printer.print_expression.Given as goal

abbrev pub invariant-loop-piece : goal.invariant-loop-piece
invariant-loop-piece l = l.out.items ++ stack_text l.stack.items ≡ l.fn.out.items ++ text (term_of l.expr)

abbrev pub decreases-loop-piece : goal.decreases-loop-piece
decreases-loop-piece l = pieces_weight l.stack.items
