use Rattle.std.proofs.Common.{◌≡◌, true, ◌+◌, ◌-◌, sym, ◌∙◌, arith, length, map}
use Rattle.std.proofs.lemmas.Result.{err_from_is_err_and}
use Rattle.fc_lexer.specs.declared.tokens.Mark.TheVariants as mark
use Rattle.fc_syntax.specs.Terms.{NoTerms, term_of}
use Rattle.fc_parser.specs.Reading.{Got}
use Rattle.fc_parser.specs.Expressions.{kinds_of, has_builtin, mark_read, more_with, arguments_with, atom_with, unary_with, turns, operations_with, binding_with, expression_at}
use Rattle.fc_parser.proofs.ExpressionLoops.{kinds_length, pushed, pushed_first, passes, passes_argument, passes_rest, passes_binding, read_as, arguments_end, arguments_none, arguments_start, arguments_more, arguments_fail, more_end, more_stop, arguments_closed, arguments_open, apply_is, builtin_done, builtin_miscounted, turns_once, turns_many, operations_start, operations_none, operations_strongest, operations_more, operations_fail, operations_stop, operations_end, within_end, within_body, within_none, within_fail, within_more}
use Rattle.fc_parser.proofs.expressions.+expressions.Goals as goal
use Rattle.fc_parser.proofs.expressions.+expressions.Goals.{arguments-else-turns-test, arguments-then-turns-test+in_default-mark, operations-then-strength-eq-COMPARISON, operations-else-strength-eq-COMPARISON}

pub arguments-returns-in-Some : goal.arguments-returns-in-Some
arguments-returns-in-Some t c =
    rw c.new-args.ensures.items (arguments_end (expression_at c.args.second c.args.budget) (kinds_of c.args.tokens.now) tt (kinds_of c.in-Some.rest.now) c.in-Some.ensures)

pub arguments-returns-in_err-rest : goal.arguments-returns-in_err-rest
arguments-returns-in_err-rest t c =
    let p = err_from_is_err_and c.from_residual.result c.from_residual.ensures.1 in
    let inner = expression_at c.args.second c.args.budget in
    rw (p.1, p.2) (passes_argument c.in_err-rest.field-0.0 c.expression_within.new.target (inner (kinds_of c.args.tokens.now)) (arguments_with inner (kinds_of c.args.tokens.now)) c.in_err-rest.ensures
    (arguments_none inner (kinds_of c.args.tokens.now) c.in_default.ensures))

pub arguments-turns-init : goal.arguments-turns-init
arguments-turns-init t c =
    arguments_start (expression_at c.args.second c.args.budget) (kinds_of c.args.tokens.now) (term_of c.expression_within.new.target) (length c.in_ok-rest.rest.now) (map term_of c.add.new.args.items) (kinds_of c.in_ok-rest.rest.now)
    c.in_default.ensures c.in_ok-rest.ensures (sym (kinds_length c.in_ok-rest.rest.now)) (pushed_first c.new-args.result.items c.add.new.args.items c.expression_within.new.target c.new-args.ensures.items c.in_ok-add.ensures)

pub arguments-returns-in_err-rest-2 : goal.arguments-returns-in_err-rest-2
arguments-returns-in_err-rest-2 t c =
    let p = err_from_is_err_and c.from_residual-in_err-rest-2.result c.from_residual-in_err-rest-2.ensures.1 in
    let inner = expression_at c.args.second c.args.budget in
    rw (p.1, p.2) (passes_argument c.in_err-rest-2.field-0.0 c.expression_within-in-turns.new.target (inner (kinds_of c.in-Some-mark.after.now)) (arguments_with inner (kinds_of c.args.tokens.now)) c.in_err-rest-2.ensures
    (arguments_fail inner c.turns.turns (map term_of c.turns.args.items) (kinds_of c.turns.rest.now) (kinds_of c.in-Some-mark.after.now) tt (arguments_with inner (kinds_of c.args.tokens.now)) c.turns.invariant (omega arith) c.in-Some-mark.ensures))

pub arguments-turns-preserved : goal.arguments-turns-preserved
arguments-turns-preserved t c =
    let inner = expression_at c.args.second c.args.budget in
    let arg = c.expression_within-in-turns.new.target in
    arguments_more inner c.turns.turns (map term_of c.turns.args.items) (map term_of c.add-in-turns.new.args.items) (term_of arg) (kinds_of c.turns.rest.now) (kinds_of c.in-Some-mark.after.now) (kinds_of c.in_ok-rest-2.rest.now) tt
    (arguments_with inner (kinds_of c.args.tokens.now)) c.turns.invariant (omega arith) c.in-Some-mark.ensures c.in_ok-rest-2.ensures (pushed c.turns.args.items c.add-in-turns.new.args.items arg c.in_ok-add-2.ensures)

pub arguments-returns-in_err-rest-3 : goal.arguments-returns-in_err-rest-3
arguments-returns-in_err-rest-3 t c =
    let p = err_from_is_err_and c.from_residual-in_err-rest-3.result c.from_residual-in_err-rest-3.ensures.1 in
    let inner = expression_at c.args.second c.args.budget in
    let end : more_with inner c.turns.turns (kinds_of c.turns.rest.now) ≡ Got NoTerms (kinds_of c.turns.rest.now) = elim c.turns-test.branch [
      | arguments-else-turns-test w ↦ more_end inner c.turns.turns (kinds_of c.turns.rest.now) (omega arith)
      | arguments-then-turns-test+in_default-mark w ↦ more_stop inner c.turns.turns (kinds_of c.turns.rest.now) w.in_default-mark.ensures
    ] in
    rw (p.1, p.2) (passes_rest c.in_err-rest-3.field-0.0 (mark_read mark.CloseRound (kinds_of c.turns.rest.now)) (arguments_with inner (kinds_of c.args.tokens.now)) c.in_err-rest-3.ensures
    (arguments_open inner c.turns.turns (map term_of c.turns.args.items) (kinds_of c.turns.rest.now) (arguments_with inner (kinds_of c.args.tokens.now)) c.turns.invariant end))

pub arguments-returns : goal.arguments-returns
arguments-returns t c =
    let inner = expression_at c.args.second c.args.budget in
    let end : more_with inner c.turns.turns (kinds_of c.turns.rest.now) ≡ Got NoTerms (kinds_of c.turns.rest.now) = elim c.turns-test.branch [
      | arguments-else-turns-test w ↦ more_end inner c.turns.turns (kinds_of c.turns.rest.now) (omega arith)
      | arguments-then-turns-test+in_default-mark w ↦ more_stop inner c.turns.turns (kinds_of c.turns.rest.now) w.in_default-mark.ensures
    ] in
    arguments_closed inner c.turns.turns (map term_of c.turns.args.items) (kinds_of c.turns.rest.now) (kinds_of c.in_ok-rest-3.rest.now) tt (arguments_with inner (kinds_of c.args.tokens.now)) c.turns.invariant end c.in_ok-rest-3.ensures

pub builtin-returns-then-len-arity : goal.builtin-returns-then-len-arity
builtin-returns-then-len-arity t c =
    let inner = expression_at c.args.second c.args.budget in
    let has : has_builtin c.args.second c.in-Some.builtin ≡ true = cc in
    rw (c.in-Some.is, apply_is c.in-Some.builtin c.in_ok-args.args)
    (builtin_done c.args.second inner c.in-Some.builtin (kinds_of c.args.tokens.now) (kinds_of c.in_ok-rest.rest.now) (kinds_of c.in_ok-args.rest.now) tt c.in_ok-args.args.items has c.in_ok-rest.ensures c.in_ok-args.ensures
    (omega (arith, c.len.ensures, c.arity.ensures, c.if-len-arity.true, c.in_ok-args.args.ok.0)))

pub builtin-returns : goal.builtin-returns
builtin-returns t c =
    let inner = expression_at c.args.second c.args.budget in
    let has : has_builtin c.args.second c.in-Some.builtin ≡ true = cc in
    rw c.in-Some.is (builtin_miscounted c.args.second inner c.in-Some.builtin (kinds_of c.args.tokens.now) (kinds_of c.in_ok-rest.rest.now) (kinds_of c.in_ok-args.rest.now) tt c.in_ok-args.args.items has c.in_ok-rest.ensures c.in_ok-args.ensures
    (λ same. c.if-len-arity.false (omega (arith, c.len.ensures, c.arity.ensures, same, c.in_ok-args.args.ok.0))))

pub expression_within-returns-in_err-rest : goal.expression_within-returns-in_err-rest
expression_within-returns-in_err-rest t c =
    let p = err_from_is_err_and c.from_residual.result c.from_residual.ensures.1 in
    let whole = expression_at c.args.second c.args.budget (kinds_of c.args.tokens.now) in
    let new = c.operations.new.target in
    rw (p.1, p.2) (passes c.in_err-rest.field-0.0 new new (operations_with (atom_with c.args.second (expression_at c.args.second (c.bindings.left - 1))) 1 (kinds_of c.bindings.rest.now)) whole
    c.in_err-rest.ensures (within_none c.args.second c.bindings.left c.bindings.bindings.items (kinds_of c.bindings.rest.now) whole c.bindings.invariant.same (omega arith) c.in_default.ensures))

pub expression_within-returns-in_default : goal.expression_within-returns-in_default
expression_within-returns-in_default t c =
    within_body c.args.second c.bindings.left c.bindings.bindings.items (kinds_of c.bindings.rest.now) (kinds_of c.in_ok-rest.rest.now) (term_of c.operations.new.target) (term_of c.bind_all.new.body)
    (expression_at c.args.second c.args.budget (kinds_of c.args.tokens.now)) c.bindings.invariant.same (omega arith) c.in_default.ensures c.in_ok-rest.ensures c.in_ok-bind_all.ensures

pub expression_within-returns-in_err-name : goal.expression_within-returns-in_err-name
expression_within-returns-in_err-name t c =
    let p = err_from_is_err_and c.from_residual-in_err-name.result c.from_residual-in_err-name.ensures.1 in
    let whole = expression_at c.args.second c.args.budget (kinds_of c.args.tokens.now) in
    rw (p.1, p.2) (passes_binding c.in_err-name.field-0.0 c.binding.new.target c.bindings.target (binding_with (expression_at c.args.second (c.bindings.left - 1)) (kinds_of c.in-Some.after.now)) whole
    c.in_err-name.ensures (within_fail c.args.second c.bindings.left c.bindings.bindings.items (kinds_of c.bindings.rest.now) (kinds_of c.in-Some.after.now) tt whole c.bindings.invariant.same (omega arith) c.in-Some.ensures))

pub expression_within-bindings-preserved : goal.expression_within-bindings-preserved
expression_within-bindings-preserved t c = record {
  within = omega (arith, c.bindings.invariant.within);
  same =
      within_more c.args.second c.bindings.left c.bindings.bindings.items c.add_binding.new.bindings.items (c.in_ok-name.name, c.binding.new.target) (kinds_of c.bindings.rest.now) (kinds_of c.in-Some.after.now) (kinds_of c.in_ok-name.next.now) tt
      (expression_at c.args.second c.args.budget (kinds_of c.args.tokens.now)) c.bindings.invariant.same (omega arith) c.in-Some.ensures c.in_ok-name.ensures c.in_ok-add_binding.ensures;
}

pub expression_within-returns : goal.expression_within-returns
expression_within-returns t c =
    within_end c.args.second c.bindings.left c.bindings.bindings.items (kinds_of c.bindings.rest.now) (expression_at c.args.second c.args.budget (kinds_of c.args.tokens.now)) c.bindings.invariant.same (omega arith)

pub operations-returns-then-strength-eq-NOT : goal.operations-returns-then-strength-eq-NOT
operations-returns-then-strength-eq-NOT t c =
    let read = atom_with c.args.second (expression_at c.args.second c.args.budget) in
    read_as c.unary.result c.unary.new.target (unary_with read (kinds_of c.args.tokens.now)) (operations_with read c.args.strength (kinds_of c.args.tokens.now)) (operations_strongest read c.args.strength (kinds_of c.args.tokens.now) (omega arith)) c.unary.ensures

pub operations-returns-in_err-rest : goal.operations-returns-in_err-rest
operations-returns-in_err-rest t c =
    let p = err_from_is_err_and c.from_residual.result c.from_residual.ensures.1 in
    let read = atom_with c.args.second (expression_at c.args.second c.args.budget) in
    let new = c.operations.new.target in
    rw (p.1, p.2) (passes c.in_err-rest.field-0.0 new new (operations_with read (c.args.strength + 1) (kinds_of c.args.tokens.now)) (operations_with read c.args.strength (kinds_of c.args.tokens.now)) c.in_err-rest.ensures
    (operations_none read c.args.strength (kinds_of c.args.tokens.now) (omega arith)))

pub operations-turns-init : goal.operations-turns-init
operations-turns-init t c =
    let read = atom_with c.args.second (expression_at c.args.second c.args.budget) in
    let start : c.if-strength-eq-COMPARISON.turns ≡ turns c.args.strength (length (kinds_of c.in_ok-rest.rest.now)) = elim c.if-strength-eq-COMPARISON.branch [
      | operations-then-strength-eq-COMPARISON w ↦ w.turns-is ∙ turns_once c.args.strength (length (kinds_of c.in_ok-rest.rest.now)) (omega arith)
      | operations-else-strength-eq-COMPARISON w ↦ w.turns-is ∙ sym (kinds_length c.in_ok-rest.rest.now) ∙ turns_many c.args.strength (length (kinds_of c.in_ok-rest.rest.now)) w.if-strength-eq-COMPARISON.false
    ] in
    operations_start read c.args.strength (kinds_of c.args.tokens.now) (term_of c.operations.new.target) c.if-strength-eq-COMPARISON.turns (kinds_of c.in_ok-rest.rest.now) (omega arith) c.in_ok-rest.ensures start

pub operations-returns-in_default : goal.operations-returns-in_default
operations-returns-in_default t c =
    let read = atom_with c.args.second (expression_at c.args.second c.args.budget) in
    operations_stop c.args.strength (operations_with read (c.args.strength + 1)) c.turns.turns (term_of c.turns.target) (kinds_of c.turns.rest.now) (operations_with read c.args.strength (kinds_of c.args.tokens.now)) c.turns.invariant c.in_default.ensures

pub operations-returns-in_err-rest-2 : goal.operations-returns-in_err-rest-2
operations-returns-in_err-rest-2 t c =
    let p = err_from_is_err_and c.from_residual-in_err-rest-2.result c.from_residual-in_err-rest-2.ensures.1 in
    let read = atom_with c.args.second (expression_at c.args.second c.args.budget) in
    let below = operations_with read (c.args.strength + 1) in
    let whole = operations_with read c.args.strength (kinds_of c.args.tokens.now) in
    rw (p.1, p.2) (passes c.in_err-rest-2.field-0.0 c.operations-in-turns.new.target c.turns.target (below (kinds_of c.in-Some.after.now)) whole c.in_err-rest-2.ensures
    (operations_fail c.args.strength below c.turns.turns (term_of c.turns.target) c.in-Some.builtin (kinds_of c.turns.rest.now) (kinds_of c.in-Some.after.now) whole c.turns.invariant (omega arith) c.in-Some.ensures))

pub operations-turns-preserved : goal.operations-turns-preserved
operations-turns-preserved t c =
    let read = atom_with c.args.second (expression_at c.args.second c.args.budget) in
    operations_more c.args.strength (operations_with read (c.args.strength + 1)) c.turns.turns (term_of c.turns.target) (term_of c.operations-in-turns.new.target) (term_of c.apply_two.new.left) c.in-Some.builtin (kinds_of c.turns.rest.now)
    (kinds_of c.in-Some.after.now) (kinds_of c.in_ok-rest-2.rest.now) (operations_with read c.args.strength (kinds_of c.args.tokens.now)) c.turns.invariant (omega arith) c.in-Some.ensures c.in_ok-rest-2.ensures c.in_ok-apply_two.ensures

pub operations-returns : goal.operations-returns
operations-returns t c =
    let read = atom_with c.args.second (expression_at c.args.second c.args.budget) in
    operations_end c.args.strength (operations_with read (c.args.strength + 1)) c.turns.turns (term_of c.turns.target) (kinds_of c.turns.rest.now) (operations_with read c.args.strength (kinds_of c.args.tokens.now)) c.turns.invariant (omega arith)
