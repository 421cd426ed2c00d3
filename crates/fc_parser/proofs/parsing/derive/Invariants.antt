use Rattle.std.proofs.Common.{length, map}
use Rattle.fc_syntax.specs.Terms.{declaration_of}
use Rattle.fc_parser.specs.Places.{place_at}
use Rattle.fc_parser.proofs.Turns.{DerivesAlike}
use Rattle.fc_parser.proofs.parsing.derive.Given as goal

abbrev pub invariant-pieces : goal.invariant-pieces
invariant-pieces l = DerivesAlike l.tokens l.rest (map declaration_of l.decls.items) (place_at l.position) l.declaration l.line

abbrev pub decreases-pieces : goal.decreases-pieces
decreases-pieces l = length l.rest
