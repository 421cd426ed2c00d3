-- Reading an expression finds one of the grammar, and each of the grammar is read.
use Rattle.std.proofs.Common.{◌≡◌, ◌+◌, Bool, List, ◌++◌, length, length-append, arith}
use Rattle.fc_lexer.specs.Kinds.{TokenKind}
use Rattle.fc_syntax.specs.Terms.{SourceTerm}
use Rattle.fc_parser.specs.Grammar.{Expression}
use Rattle.fc_parser.specs.Reading.{Got, Fronts}
use Rattle.fc_parser.specs.Expressions.{Stops, expression_read}
use Rattle.fc_parser.proofs.ExpressionSound.{sound_at}
use Rattle.fc_parser.proofs.ExpressionComplete.{complete_expression}

pub expression_sound : (second : Bool) (ts : List TokenKind) (e : SourceTerm) (r : List TokenKind) → expression_read second ts ≡ Got e r → Fronts (λ p. Expression second p e) ts r
unfolding expression_read
expression_sound second ts e r h = sound_at second (length ts + 1) ts e r h

pub expression_complete : (second : Bool) (ts : List TokenKind) (e : SourceTerm) → Expression second ts e → (r : List TokenKind) → Stops r → expression_read second (ts ++ r) ≡ Got e r
unfolding expression_read
expression_complete second ts e d r stops = complete_expression second d (length (ts ++ r) + 1) r (omega (arith, length-append ts r)) stops
