use Rattle.std.proofs.Common.{◌+◌, ◌-◌, ◌∙◌, sym, ap, arith, length}
use Rattle.fc_values.specs.Types.{local_type_of}
use Rattle.fc_values.specs.Values.{greater}
use Rattle.fc_values.specs.Builtins.{greatest_of}
use Rattle.value_columns.specs.LoneRows.{value_in}
use Rattle.value_columns.specs.OtherRows.{rows_in}
use Rattle.value_columns.proofs.Standing.{row_within}
use Rattle.value_columns.proofs.OtherReads.{lone_row, rows_step}
use Rattle.value_columns.proofs.hoods.greatest.Goals as goal

pub overflow_add-other : goal.overflow_add-other
overflow_add-other c = omega (
  arith,
  row_within (local_type_of c.args.ty.now) c.args.field.step c.args.field.first
      c.loop-row.row (length c.args.words.now) c.requires.within (omega arith),
)

pub loop-row-preserved : goal.loop-row-preserved
loop-row-preserved c =
    let was = c.loop-row.invariant in
    let ws = c.args.words.now in
    let t = local_type_of c.args.ty.now in
    let rows = c.args.field.step in
    let at = c.args.field.first in
    let row = c.loop-row.row in
    let to = c.args.to in
    let now = c.greater_row-best.ensures in
    let best = value_in ws t c.loop-row.best in
    let rest = rows_in ws t rows at (row + 1) (to - (row + 1)) in
    record {
      stands = now.stands;
      behind = (now.behind at was.behind.0 (omega arith), now.step was.behind.1 (omega arith));
      greatest = ap (λ v. greatest_of v rest) (now.value ∙ ap (greater best) (lone_row ws t rows at row))
          ∙ (sym (ap (greatest_of best) (rows_step ws t rows at row to (omega arith))) ∙ was.greatest);
    }
