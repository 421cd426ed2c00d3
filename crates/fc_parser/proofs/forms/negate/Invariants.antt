use Rattle.std.proofs.Common.{◌≡◌}
use Rattle.fc_syntax.specs.Terms.{term_of}
use Rattle.fc_parser.specs.Expressions.{negated}
use Rattle.fc_parser.proofs.forms.negate.Given as goal

abbrev pub invariant-loop : goal.invariant-loop
invariant-loop l = term_of l.whole ≡ negated l.counter (term_of l.fn.operand)
