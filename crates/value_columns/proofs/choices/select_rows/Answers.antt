use Rattle.std.proofs.Common.{◌≡◌, ℕ, ◌+◌, ◌*◌, length, arith, ap, refl, ◌∙◌, if◌then◌else◌}
use Rattle.std.proofs.Math.Nat.{le-mul_of_pos_right}
use Rattle.fc_values.specs.Types.{local_type_of}
use Rattle.value_columns.specs.Columns.{row_in, word_in, truth_of}
use Rattle.value_columns.proofs.Rows.{some_leaf, same_word, row_stands, chosen_row, copied_place, values_more, before_more, rest_more}
use Rattle.value_columns.proofs.choices.select_rows.Goals as goal

pub loop-row-init : goal.loop-row-init
loop-row-init c =
    let t = local_type_of c.args.ty.now in
    let e = ap (λ w. c.args.rows * w) c.width-width.ensures in
    let some = le-mul_of_pos_right c.args.rows (some_leaf t) in
    (omega arith, omega arith, omega arith, λ i h. absurd (omega arith), λ p h. refl, λ i h l k. refl)

pub copy_row-requires-clause-within : goal.copy_row-requires-clause-within
copy_row-requires-clause-within c =
    row_stands (length c.loop-row.words) c.width-width.result c.args.rows c.chosen_place-chosen.result c.loop-row.row (omega arith) (omega arith)

pub loop-row-preserved : goal.loop-row-preserved
loop-row-preserved c =
    let t = local_type_of c.args.ty.now in
    let xs = c.loop-row.words in
    let ys = c.copy_row.new.words in
    let zs = c.args.words.now in
    let rows : ℕ = c.args.rows in
    let at : ℕ = c.args.at in
    let width : ℕ = c.width-width.result in
    let second : ℕ = at + rows + rows * width in
    let row : ℕ = c.loop-row.row in
    let value = λ (i : ℕ). if truth_of (word_in zs (at + i)) then row_in zs t rows (at + rows) i else row_in zs t rows second i in
    let invariant = c.loop-row.invariant in
    let rest = invariant.5 row (omega arith) (omega arith) in
    let choice : word_in xs (at + row) ≡ word_in zs (at + row) =
    same_word xs (at + row) (at + rows * 0 + row) (omega arith) ∙ rest 0 ∙ same_word zs (at + rows * 0 + row) (at + row) (omega arith) in
    let copied = copied_place t xs ys rows width (c.chosen_place-chosen.result + row) (at + row) c.width-width.ensures c.copy_row.ensures.copied in
    let chosen = chosen_row t xs zs rows at width second c.chosen_place-chosen.result row (truth_of (word_in xs (at + row))) (omega arith) c.chosen_place-chosen.ensures.place rest in
    let here : row_in ys t rows (at + row) 0 ≡ value row =
    copied ∙ chosen ∙ ap (λ w. if truth_of w then row_in zs t rows (at + rows) row else row_in zs t rows second row) choice in (
      omega arith,
      omega arith,
      omega arith,
      values_more t xs ys zs rows width at row value (omega arith) c.copy_row.ensures.others invariant.3 here,
      before_more t xs ys zs rows width at row value (omega arith) c.copy_row.ensures.others invariant.4,
      rest_more t xs ys zs rows width at row value (omega arith) c.copy_row.ensures.others invariant.5,
    )
