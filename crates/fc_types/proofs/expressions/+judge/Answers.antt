use Rattle.std.proofs.Common.{map, arith, add-one}
use Rattle.std.proofs.lemmas.Result.{err_from_is_err_and}
use Rattle.std.proofs.lemmas.List.{map-append}
use Rattle.fc_values.specs.Types.{type_of}
use Rattle.fc_types.specs.Views.{known_of, scope_of}
use Rattle.fc_types.proofs.Arguments.{row_more, fault_along}
use Rattle.fc_types.proofs.expressions.+judge.Goals as goal

pub judge_all-returns-in_err-judge : goal.judge_all-returns-in_err-judge
judge_all-returns-in_err-judge t c =
    let p = err_from_is_err_and c.from_residual-in_err-judge.result c.from_residual-in_err-judge.ensures.1 in
    rw (p.1, p.2) (fault_along (known_of c.args.known.now) (scope_of c.args.scope.now) c.args.args.now c.loop-arg.arg-index c.arg-item.result (map type_of c.loop-arg.types.items) c.in_err-judge.field-0.0 (omega arith) c.arg-item.is c.loop-arg.invariant c.in_err-judge.ensures)

pub judge_all-loop-arg-preserved : goal.judge_all-loop-arg-preserved
judge_all-loop-arg-preserved t c =
    let more = row_more (known_of c.args.known.now) (scope_of c.args.scope.now) c.args.args.now c.loop-arg.arg-index c.arg-item.result (map type_of c.loop-arg.types.items) (type_of c.in_ok-judge.field-0) (omega arith) c.arg-item.is c.loop-arg.invariant c.in_ok-judge.ensures in
    rw (add-one, c.in_ok-push.ensures.items, map-append) more
