use Rattle.std.proofs.Common.{◌≤◌}
use Rattle.fc_syntax.proofs.tree.Expr.TheLaws.{the_size}
use Rattle.fc_syntax.proofs.tree.Expr.+drop.Given as goal

abbrev pub invariant-loop-self : goal.invariant-loop-self
invariant-loop-self l = the_size l.self ≤ the_size l.fn.self
