use Rattle.std.proofs.Common.{ℕ, ◌∙◌, length, arith}
use Rattle.fc_values.specs.Types.{local_type_of}
use Rattle.value_columns.specs.Columns.{word_in}
use Rattle.value_columns.specs.LocalWords.{local_at, words_of}
use Rattle.value_columns.proofs.LocalReads.{reads_row}
use Rattle.value_columns.proofs.MoreColumns.{one_column}
use Rattle.value_columns.proofs.locals.push_rows.Goals as goal

pub loop-leaf-preserved : goal.loop-leaf-preserved
loop-leaf-preserved c =
    let was = c.loop-leaf.invariant in
    let column = c.in_ok-push_column.ensures in
    let values = c.args.values.now in
    record {
      long = omega (arith, was.long, column.long);
      stay = λ p h. column.stay p (omega (arith, was.long)) ∙ was.stay p h;
      columns = one_column c.loop-leaf.words.items c.push_column.new.words.items (length c.args.words.now.items)
          (length values) (λ (k i : ℕ). word_in (words_of (local_at values i)) k) c.loop-leaf.leaf was.long was.columns
          column.stay column.column;
    }

pub returns-clause-reads : goal.returns-clause-reads
returns-clause-reads c = λ i h. reads_row (local_at c.args.values.now i) (local_type_of c.args.ty.now)
    c.loop-leaf.words.items (length c.args.values.now) (length c.args.words.now.items) i (c.requires.forms i h)
    (λ k l. c.loop-leaf.invariant.columns k i (omega arith) h)
