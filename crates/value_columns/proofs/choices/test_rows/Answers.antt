use Rattle.std.proofs.Common.{◌≡◌, ◌≢◌, ℕ, ◌+◌, ◌*◌, ◌<◌, length, arith, ap, sym, subst, refl, ◌∙◌, below_more, get_or-set_other, get_or-set_same, length-set, set}
use Rattle.std.proofs.Math.Nat.{le-mul_of_pos_right}
use Rattle.fc_values.specs.Types.{local_type_of}
use Rattle.fc_values.specs.Values.{compare_values}
use Rattle.value_columns.specs.Columns.{row_in, truth_of, word_in}
use Rattle.value_columns.proofs.Rows.{some_leaf, row_after}
use Rattle.value_columns.proofs.choices.test_rows.Goals as goal

pub loop-row-init : goal.loop-row-init
loop-row-init g c =
    let t = local_type_of c.args.ty.now in
    let e = ap (λ w. c.args.rows * w) c.width.ensures in
    let some = le-mul_of_pos_right c.args.rows (some_leaf t) in
    (omega arith, omega arith, omega arith, λ i h. absurd (omega arith), λ p h. refl, λ p h. refl)

pub loop-row-preserved : goal.loop-row-preserved
loop-row-preserved g c =
    let row : ℕ = c.loop-row.row in
    let place : ℕ = c.args.at + row in
    let kept = c.loop-row.invariant in
    let inside : place < length c.loop-row.words = omega arith in
    let t = local_type_of c.args.ty.now in
    let written = get_or-set_same c.loop-row.words place c.word_of.result 0 inside in
    let truth : c.test.result ≡ truth_of (word_in (set c.loop-row.words place c.word_of.result) place) =
    sym (ap truth_of written ∙ c.word_of.ensures) in
    let first = row_after t c.loop-row.words c.args.words.now c.args.rows place c.args.at row (omega arith) kept.5 in
    let second = row_after t c.loop-row.words c.args.words.now c.args.rows place (c.args.at + c.args.rows * c.width.result) row (omega arith) kept.5 in
    let order : c.compare_rows-order.result ≡ compare_values (row_in c.args.words.now t c.args.rows c.args.at row)
    (row_in c.args.words.now t c.args.rows (c.args.at + c.args.rows * c.width.result) row) = cc in (
      omega arith,
      omega arith,
      simp length-set (omega arith),
      below_more _ row
          (λ i h. let ne : c.args.at + i ≢ place = omega arith in rw get_or-set_other (kept.3 i h))
          (subst (λ b. goal.F-post g c.args.test (compare_values (row_in c.args.words.now t c.args.rows c.args.at row)
          (row_in c.args.words.now t c.args.rows (c.args.at + c.args.rows * c.width.result) row)) b) truth
          (subst (λ o. goal.F-post g c.args.test o c.test.result) order c.test.ensures)),
      (λ p h. let ne : p ≢ place = omega arith in rw get_or-set_other (kept.4 p h)),
      (λ p h. let ne : p ≢ place = omega arith in rw get_or-set_other (kept.5 p (omega arith))),
    )
