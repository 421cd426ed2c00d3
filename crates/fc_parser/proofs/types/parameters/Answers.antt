use Rattle.std.proofs.Common.{◌≡◌, ◌∙◌, ap, arith, map, List, [], ◌∷◌, ◌++◌}
use Rattle.std.proofs.lemmas.List.{map-append}
use Rattle.std.proofs.lemmas.Result.{err_from_is_err_and}
use Rattle.fc_lexer.specs.declared.tokens.Mark.TheVariants as mark
use Rattle.fc_syntax.specs.declared.tree.Param.{Param}
use Rattle.fc_syntax.specs.Terms.{parameter_of}
use Rattle.fc_parser.specs.Expressions.{kinds_of}
use Rattle.fc_parser.specs.Types.{parameter_read, parameters_of, parameters_read}
use Rattle.fc_parser.proofs.Steps.{passes}
use Rattle.fc_parser.proofs.Sizes.{mark_less, parameter_less}
use Rattle.fc_parser.proofs.Loops.{none_left, first_not, more_start, more_not, more_next, more_done}
use Rattle.fc_parser.proofs.types.parameters.Goals as goal

pub returns-in_default : goal.returns-in_default
returns-in_default c = rw c.new-params.ensures.items (none_left (kinds_of c.args.tokens.now) (c.in_default.ensures {u = tt}).0)

pub returns-in_err-first : goal.returns-in_err-first
returns-in_err-first c =
    let p = err_from_is_err_and c.from_residual.result c.from_residual.ensures.1 in
    let ts = kinds_of c.args.tokens.now in
    rw (p.1, p.2) (passes parameter_of parameters_of c.in_err-first.field-0.0 (parameter_read ts) (parameters_read ts) c.in_err-first.ensures (first_not ts c.in-Ok.field-0.0.now.text.items (kinds_of c.in-Ok.field-0.1.now) c.in-Ok.ensures))

pub more-init : goal.more-init
more-init c =
    let one : List Param = c.in_ok-first.first ∷ [] in
    let items : c.push.new.self.items ≡ one = c.in_ok-push.ensures.items ∙ ap (λ l. l ++ one) c.new-params.ensures.items in
    rw items (more_start (kinds_of c.args.tokens.now) c.in-Ok.field-0.0.now.text.items (kinds_of c.in-Ok.field-0.1.now) (parameter_of c.in_ok-first.first) (kinds_of c.in_ok-first.rest.now) c.in-Ok.ensures c.in_ok-first.ensures)

pub returns-in_err-param : goal.returns-in_err-param
returns-in_err-param c =
    let p = err_from_is_err_and c.from_residual-in_err-param.result c.from_residual-in_err-param.ensures.1 in
    let whole = parameters_read (kinds_of c.args.tokens.now) in
    let after = kinds_of c.in-Some.after.now in
    rw (p.1, p.2) (passes parameter_of parameters_of c.in_err-param.field-0.0 (parameter_read after) whole c.in_err-param.ensures
    (more_not whole (parameters_of c.more.params) (kinds_of c.more.rest.now) after tt c.more.invariant c.in-Some.ensures))

pub more-smaller : goal.more-smaller
more-smaller c =
    let comma = mark_less mark.Comma c.more.rest.now c.in-Some.after.now tt c.in-Some.ensures in
    let read = parameter_less c.in-Some.after.now c.in_ok-param.next.now (parameter_of c.in_ok-param.param) c.in_ok-param.ensures in
    omega (arith, comma, read)

pub more-preserved : goal.more-preserved
more-preserved c =
    let made : parameters_of c.push-in-Some.new.self ≡ parameters_of c.more.params ++ parameter_of c.in_ok-param.param ∷ [] =
    ap (map parameter_of) c.in_ok-push-2.ensures.items ∙ map-append parameter_of c.more.params.items (c.in_ok-param.param ∷ []) in
    rw made (more_next (parameters_read (kinds_of c.args.tokens.now)) (parameters_of c.more.params) (kinds_of c.more.rest.now) (kinds_of c.in-Some.after.now) tt (parameter_of c.in_ok-param.param) (kinds_of c.in_ok-param.next.now)
    c.more.invariant c.in-Some.ensures c.in_ok-param.ensures)

pub returns : goal.returns
returns c = more_done (parameters_read (kinds_of c.args.tokens.now)) (parameters_of c.more.params) (kinds_of c.more.rest.now) c.more.invariant c.in_default-mark.ensures
