use Rattle.std.proofs.Common.{◌≡◌, ℕ, ◌+◌, ◌*◌, arith, ap, refl, ◌∙◌, Bool}
use Rattle.std.proofs.Math.Nat.{le-mul_of_pos_right}
use Rattle.fc_values.specs.Types.{leaves, local_type_of}
use Rattle.fc_values.specs.Values.{LocalValue}
use Rattle.value_columns.specs.Arguments.{kept}
use Rattle.value_columns.specs.Columns.{row_in}
use Rattle.value_columns.proofs.Rows.{some_leaf, unread_row, values_more, before_more, rest_more}
use Rattle.value_columns.proofs.choices.keep_rows.Goals as goal

pub loop-row-init : goal.loop-row-init
loop-row-init c =
    let t = local_type_of c.args.ty.now in
    let e = ap (λ w. c.args.rows * w) c.width.ensures in
    let some = le-mul_of_pos_right c.args.rows (some_leaf t) in
    (omega arith, omega arith, omega arith, λ i h. absurd (omega arith), λ p h. refl, λ i h l k. refl)

same_kept : (greatest : Bool) {a b x y : LocalValue} → a ≡ x → b ≡ y → kept greatest a b ≡ kept greatest x y
same_kept greatest p q = cc

pub loop-row-preserved : goal.loop-row-preserved
loop-row-preserved c =
    let t = local_type_of c.args.ty.now in
    let xs = c.loop-row.words in
    let ys = c.keep_row.new.words in
    let zs = c.args.words.now in
    let rows : ℕ = c.args.rows in
    let at : ℕ = c.args.at in
    let other : ℕ = at + rows * c.width.result in
    let row : ℕ = c.loop-row.row in
    let value = λ (i : ℕ). kept c.args.greatest (row_in zs t rows at i) (row_in zs t rows other i) in
    let invariant = c.loop-row.invariant in
    let rest = invariant.5 row (omega arith) (omega arith) in
    let first = unread_row t xs zs rows at 0 at row (omega arith) rest in
    let second = unread_row t xs zs rows at c.width.result other row (omega arith) rest in
    let here : row_in ys t rows (at + row) 0 ≡ value row =
    c.keep_row.ensures.kept ∙ same_kept c.args.greatest first second in (
      omega arith,
      omega arith,
      omega arith,
      values_more t xs ys zs rows (leaves t) at row value (omega arith) c.keep_row.ensures.others invariant.3 here,
      before_more t xs ys zs rows (leaves t) at row value (omega arith) c.keep_row.ensures.others invariant.4,
      rest_more t xs ys zs rows (leaves t) at row value (omega arith) c.keep_row.ensures.others invariant.5,
    )
