use Rattle.std.proofs.Common.{◌∙◌, ap, sym, subst, Err}
use Rattle.std.proofs.lemmas.Result.{err_from_is_err_and}
use Rattle.fc_lexer.specs.Kinds.{tokens_of}
use Rattle.fc_syntax.specs.Terms.{declaration_of}
use Rattle.fc_parser.specs.Expressions.{kinds_of}
use Rattle.fc_parser.specs.Heads.{GivesWhole}
use Rattle.fc_parser.specs.Declarations.{declaration_read}
use Rattle.fc_parser.specs.Places.{place_at}
use Rattle.fc_parser.proofs.Order.{stands, stands_elsewhere, stands_refused}
use Rattle.fc_parser.proofs.places.standing.Goals as goal

pub returns-in_err-decl : goal.returns-in_err-decl
returns-in_err-decl c =
    let p = err_from_is_err_and c.from_residual.result c.from_residual.ensures.1 in
    let e = c.in_err-decl.field-0.0 in
    rw (p.1, p.2) (stands_refused (place_at c.args.position) (tokens_of c.args.piece.now) e
    (subst (λ b. GivesWhole declaration_of (Err e) (declaration_read b (kinds_of c.args.piece.now))) c.is_second.ensures c.in_err-decl.ensures))

pub returns-in-Some : goal.returns-in-Some
returns-in-Some c =
    stands (place_at c.args.position) (tokens_of c.args.piece.now) (declaration_of c.in_ok-decl.decl) (place_at c.in-Some.after)
    (ap (λ b. declaration_read b (kinds_of c.args.piece.now)) (sym c.is_second.ensures) ∙ c.in_ok-decl.ensures {u = tt}) (sym (c.in-Some.ensures {u = tt}))

pub returns-in-None : goal.returns-in-None
returns-in-None c =
    stands_elsewhere (place_at c.args.position) (tokens_of c.args.piece.now) (declaration_of c.in_ok-decl.decl)
    (ap (λ b. declaration_read b (kinds_of c.args.piece.now)) (sym c.is_second.ensures) ∙ c.in_ok-decl.ensures {u = tt}) (sym (c.in-None.ensures {u = tt}))
