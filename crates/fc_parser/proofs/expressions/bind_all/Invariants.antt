use Rattle.std.proofs.Common.{◌≡◌, length}
use Rattle.fc_syntax.specs.Terms.{term_of}
use Rattle.fc_parser.specs.Expressions.{nested}
use Rattle.fc_parser.proofs.expressions.bind_all.Given as goal

abbrev pub invariant-bindings : goal.invariant-bindings
invariant-bindings l = nested l.bindings.items (term_of l.whole) ≡ nested l.fn.bindings.items (term_of l.fn.body)

abbrev pub decreases-bindings : goal.decreases-bindings
decreases-bindings l = length l.bindings.items
