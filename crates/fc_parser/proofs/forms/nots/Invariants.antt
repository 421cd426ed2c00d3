use Rattle.std.proofs.Common.{◌≡◌, ◌+◌, ◌≤◌, length}
use Rattle.fc_parser.specs.Expressions.{kinds_of, count_nots, after_nots}
use Rattle.fc_parser.proofs.forms.nots.Given as goal

abbrev pub invariant-nots : goal.invariant-nots
invariant-nots l = record {
  many : count_nots (kinds_of l.fn.tokens) ≡ l.many + count_nots (kinds_of l.rest);
  rest : after_nots (kinds_of l.fn.tokens) ≡ after_nots (kinds_of l.rest);
  within : l.many + length (kinds_of l.rest) ≤ length (kinds_of l.fn.tokens);
}

abbrev pub decreases-nots : goal.decreases-nots
decreases-nots l = length (kinds_of l.rest)
