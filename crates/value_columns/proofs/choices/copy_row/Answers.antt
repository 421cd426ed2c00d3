use Rattle.std.proofs.Common.{◌≢◌, ℕ, ◌+◌, ◌*◌, ◌<◌, length, arith, ◌∙◌, below_more, get_or-set_other, get_or-set_same}
use Rattle.value_columns.proofs.Rows.{leaves_rise}
use Rattle.value_columns.proofs.choices.copy_row.Goals as goal

pub loop-leaf-preserved : goal.loop-leaf-preserved
loop-leaf-preserved c =
    let rows : ℕ = c.args.rows in
    let leaf : ℕ = c.loop-leaf.leaf in
    let to : ℕ = c.args.to + rows * leaf in
    let from : ℕ = c.args.from + rows * leaf in
    let inside : from < length c.loop-leaf.words = omega (arith, c.requires.within leaf (omega arith)) in
    let rise = λ (k : ℕ) (h : k < leaf). leaves_rise rows k leaf c.requires.some h in
    let unread : (k : ℕ) → k < leaf → from ≢ c.args.to + rows * k = λ k h e. absurd (omega (arith, rise k h)) in (
      below_more _ leaf
          (λ k h. get_or-set_other c.loop-leaf.words to (c.args.to + rows * k) _ 0 (λ e. absurd (omega (arith, rise k h)))
          ∙ c.loop-leaf.invariant.0 k h)
          (get_or-set_same c.loop-leaf.words to _ 0 (omega arith) ∙ c.loop-leaf.invariant.1 from unread),
      λ p apart. get_or-set_other c.loop-leaf.words to p _ 0 (apart leaf (omega arith))
          ∙ c.loop-leaf.invariant.1 p (λ k h. apart k (omega arith)),
    )
