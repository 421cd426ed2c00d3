use Rattle.std.proofs.Common.{◌+◌, ℕ, ap, sym, ◌∙◌}
use Rattle.std.proofs.lemmas.Result.{err_from_is_err_and}
use Rattle.fc_parser.specs.Expressions.{kinds_of, expression_at, expression_read}
use Rattle.fc_parser.proofs.ExpressionLoops.{kinds_length, passes_whole}
use Rattle.fc_parser.proofs.expressions.expression.Goals as goal

pub returns-in_err-rest : goal.returns-in_err-rest
unfolding expression_read
returns-in_err-rest c =
    let p = err_from_is_err_and c.from_residual.result c.from_residual.ensures.1 in
    let whole = expression_at c.args.second in
    let many = sym (ap (λ (n : ℕ). whole (n + 1) (kinds_of c.args.tokens.now)) (kinds_length c.args.tokens.now)) in
    rw (p.1, p.2) (passes_whole c.in_err-rest.field-0.0 c.expression_within.new.target _ _ c.in_err-rest.ensures many)

pub returns : goal.returns
unfolding expression_read
returns c = ap (λ (n : ℕ). expression_at c.args.second (n + 1) (kinds_of c.args.tokens.now)) (kinds_length c.args.tokens.now) ∙ c.in_ok-rest.ensures
