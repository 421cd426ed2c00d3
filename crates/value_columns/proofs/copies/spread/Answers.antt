use Rattle.std.proofs.Common.{◌≡◌, ℕ, ◌+◌, ◌*◌, ◌<◌, List, length, ap, ◌∙◌, arith, below_more}
use Rattle.fc_values.specs.Types.{leaves, local_type_of}
use Rattle.value_columns.specs.Columns.{word_in}
use Rattle.value_columns.proofs.Rows.{same_row, same_word, word_before_gap, length_after_gap}
use Rattle.value_columns.proofs.Standing.{leaf_below, row_moves}
use Rattle.value_columns.proofs.copies.spread.Goals as goal

-- one more column of a repeated word
one_more : (old mid new : List ℕ) (rows at leaf many : ℕ) → length old ≡ at + many → leaf < many →
    length mid ≡ length old + rows * leaf → ((p : ℕ) → p < length old → word_in mid p ≡ word_in old p) →
    ((k : ℕ) → k < leaf → (i : ℕ) → i < rows → word_in mid (length old + (rows * k + i)) ≡ word_in old (at + k)) →
    ((p : ℕ) → p < length mid → word_in new p ≡ word_in mid p) →
    ((i : ℕ) → i < rows → word_in new (length mid + i) ≡ word_in mid (at + leaf)) →
    (k : ℕ) → k < leaf + 1 → (i : ℕ) → i < rows → word_in new (length old + (rows * k + i)) ≡ word_in old (at + k)
one_more old mid new rows at leaf many whole l long stay so_far stays column =
    below_more (λ k. (i : ℕ) → i < rows → word_in new (length old + (rows * k + i)) ≡ word_in old (at + k)) leaf
    (λ k h i b. let earlier = leaf_below rows i k leaf b h in
    stays (length old + (rows * k + i)) (omega arith) ∙ so_far k h i b)
    (λ i b. same_word new (length old + (rows * leaf + i)) (length mid + i) (omega arith)
    ∙ column i b ∙ stay (at + leaf) (omega arith))

pub width-many-requires : goal.width-many-requires
width-many-requires c = omega (arith, c.requires, c.args.words.now.ok.0)

pub loop-leaf-preserved : goal.loop-leaf-preserved
loop-leaf-preserved c =
    let was = c.loop-leaf.invariant in
    let column = c.in_ok-repeat_word.ensures in
    record {
      long = omega (arith, was.long, column.long);
      stay = λ p h. column.stay p (omega (arith, was.long)) ∙ was.stay p h;
      added = one_more c.args.words.now.items c.loop-leaf.words.items c.repeat_word.new.words.items c.args.rows c.args.at
          c.loop-leaf.leaf c.width-many.result (omega arith) (omega arith) was.long was.stay was.added column.stay column.added;
    }

pub returns-clause-values : goal.returns-clause-values
returns-clause-values c =
    let was = c.loop-leaf.invariant in
    let t = local_type_of c.args.ty.now in
    let xs = c.loop-leaf.words.items in
    let old = c.args.words.now.items in
    let at : ℕ = c.args.at in
    let rows : ℕ = c.args.rows in
    let many : ℕ = c.width-many.result in
    λ i h. row_moves xs c.close_gap.new.words.items t rows at i at many (omega (arith, was.long)) c.close_gap.ensures (omega arith)
    ∙ same_row t xs old rows 1 (at + many) at i 0
    (λ k b. same_word xs (at + many + rows * k + i) (length old + (rows * k + i)) (omega arith)
    ∙ was.added k (omega arith) i h ∙ same_word old (at + k) (at + 1 * k + 0) (omega arith))

pub returns-clause-before : goal.returns-clause-before
returns-clause-before c =
    let was = c.loop-leaf.invariant in
    λ p h. word_before_gap c.loop-leaf.words.items c.close_gap.new.words.items c.args.at c.width-many.result p
    (omega (arith, was.long)) c.close_gap.ensures h ∙ was.stay p (omega arith)

pub returns-clause-length : goal.returns-clause-length
returns-clause-length c =
    let was = c.loop-leaf.invariant in
    let all : c.loop-leaf.leaf ≡ leaves (local_type_of c.args.ty.now) = omega arith in
    omega (
      arith,
      was.long,
      ap (λ n. c.args.rows * n) all,
      length_after_gap c.loop-leaf.words.items c.close_gap.new.words.items c.args.at
          c.width-many.result (omega (arith, was.long)) c.close_gap.ensures,
    )
