use Rattle.std.proofs.Common.{◌-◌, length}
use Rattle.fc_lexer.specs.Kinds.{tokens_of}
use Rattle.fc_lexer.proofs.Turns.{IsReadTo}
use Rattle.fc_lexer.proofs.lexing.lex.Given as goal

abbrev pub invariant-pieces : goal.invariant-pieces
invariant-pieces l = IsReadTo l.text l.at l.line (tokens_of l.tokens.items)

abbrev pub decreases-pieces : goal.decreases-pieces
decreases-pieces l = length l.text - l.at
