use Rattle.std.proofs.Common.{◌∙◌, ap}
use Rattle.fc_syntax.specs.Terms.{LetTerm, term_of}
use Rattle.fc_syntax.specs.declared.tree.Expr.TheViews.{Let}
use Rattle.fc_parser.proofs.ExpressionLoops.{let_is, rebound}
use Rattle.fc_parser.proofs.expressions.bind_all.Goals as goal

pub bindings-preserved : goal.bindings-preserved
bindings-preserved c =
    let name = c.in-Some.name in
    let bound = c.in_ok-new.field-0 in
    let whole = c.in_ok-new-2.field-0 in
    rebound c.pop.new.self.items c.bindings.bindings.items (name, c.in-Some.bound) (term_of c.bindings.whole) (term_of (Let name bound whole)) c.in-Some.ensures.items
    (let_is name bound whole ∙ ap (λ v. LetTerm name.text.items (term_of v) (term_of whole.value)) c.in_ok-new.ensures.ok ∙ ap (λ v. LetTerm name.text.items (term_of c.in-Some.bound) (term_of v)) c.in_ok-new-2.ensures.ok)
    ∙ c.bindings.invariant
