use Rattle.std.proofs.Common.{ℕ, ◌+◌, ◌<◌, ◌++◌, drop, length, sym, ap, ◌∙◌, arith}
use Rattle.alignment.specs.References.{numbers_in}
use Rattle.scope_columns.specs.Scopes.{devices_in}
use Rattle.scope_columns.specs.Words.{kept_rows, stays}
use Rattle.scope_columns.proofs.DeviceRows.{rows_many}
use Rattle.scope_columns.proofs.KeptRows.{row_kept, row_left, rows_done}
use Rattle.scope_columns.proofs.variables.aligned_rows.Goals as goal
use Rattle.scope_columns.proofs.variables.aligned_rows.Goals.{then-is_aligned+in_ok-push, else-is_aligned}

pub loop-row-preserved : goal.loop-row-preserved
loop-row-preserved c =
    let d : ℕ = c.args.device in
    let row : ℕ = c.loop-row.row in
    let q = stays d (numbers_in c.args.inner.now) in
    let ds = devices_in d c.args.env.now in
    let zs = kept_rows q 0 ds in
    let rows = rows_many d c.args.env.now c.len-row-end.ensures.value in
    let inside : row < length ds = omega (arith, rows) in
    let tested = c.is_aligned.ensures in
    elim c.if-is_aligned.branch [
      | then-is_aligned+in_ok-push w ↦ row_kept q c.loop-row.rows.items zs row ds c.loop-row.invariant inside
          c.device_in_row-other.ensures (sym tested ∙ w.if-is_aligned.true)
          (ap (λ v. v.items) w.rows-is ∙ w.in_ok-push.ensures.ok)
      | else-is_aligned w ↦ ap (λ v. v.items ++ kept_rows q (row + 1) (drop (row + 1) ds)) w.rows-is
          ∙ row_left q c.loop-row.rows.items zs row ds c.loop-row.invariant inside
          c.device_in_row-other.ensures (sym tested ∙ w.if-is_aligned.false)
    ]

pub returns : goal.returns
returns c =
    let q = stays c.args.device (numbers_in c.args.inner.now) in
    let ds = devices_in c.args.device c.args.env.now in
    let rows = rows_many c.args.device c.args.env.now c.len-row-end.ensures.value in
    rows_done q c.loop-row.rows.items (kept_rows q 0 ds) c.loop-row.row ds c.loop-row.invariant (omega (arith, rows))
