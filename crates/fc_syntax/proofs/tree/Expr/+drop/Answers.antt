use denote.Hole.Carrier.{roll}
use denote.Param.Weighed.{most}
use Rattle.std.proofs.Common.{rules, arith, ◌≡◌, refl, ap, ◌≤◌, ◌<◌, List, [], ◌∷◌}
use Rattle.std.specs.List.{remove}
use Rattle.std.specs.declared.alloc.Global.{Global}
use Rattle.std.specs.declared.vec.Vec.{Vec}
use Rattle.fc_values.specs.declared.builtins.Builtin.{Builtin}
use Rattle.fc_syntax.specs.declared.tree.Expr.{Expr, roll-Expr, size_is-Expr, out-roll-Expr}
use Rattle.fc_syntax.specs.declared.tree.Expr.TheOpen.{Expr-F}
use Rattle.fc_syntax.specs.declared.tree.Expr.TheViews.{Apply}
use Rattle.fc_syntax.proofs.tree.Expr.TheLaws.{the_size}
use Rattle.fc_syntax.proofs.tree.Expr.+drop.Goals as goal

most-remove : (xs : List Expr) → most the_size (remove xs 0) ≤ most the_size xs
most-remove [] = omega arith
most-remove (x ∷ xs) = omega arith

rolled : (b : Builtin) (args : Vec Expr Global) → roll-Expr (Expr-F.Apply b args) ≡ Apply b args
unfolding roll-Expr roll
rolled b args = refl

-- each argument is less deep than the expression
deeper : (b : Builtin) (args : Vec Expr Global) → most the_size args.items < the_size (Apply b args)
deeper b args =
    let layer = rw (out-roll-Expr (Expr-F.Apply b args)) at (size_is-Expr (roll-Expr (Expr-F.Apply b args))) in
    let same : the_size (roll-Expr (Expr-F.Apply b args)) ≡ the_size (Apply b args) = ap the_size (rolled b args) in
    omega (arith, layer, same)

pub drop-args-requires-in-Apply : goal.drop-args-requires-in-Apply
drop-args-requires-in-Apply t c κs =
    let left : most the_size c.remove-self.new.self.items ≤ most the_size c.in-Apply.args.items = search (rules, most-remove c.in-Apply.args.items) in
    let whole : most the_size c.in-Apply.args.items < the_size c.loop-self.self = search (rules, deeper c.in-Apply.field-0 c.in-Apply.args) in
    search (rules, left, whole)
