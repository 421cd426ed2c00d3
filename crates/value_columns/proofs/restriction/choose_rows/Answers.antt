use Rattle.std.proofs.Common.{◌+◌, ◌*◌, ◌∙◌, length, arith}
use Rattle.fc_values.specs.Types.{leaves, local_type_of}
use Rattle.value_columns.specs.Columns.{word_in}
use Rattle.value_columns.proofs.Rows.{same_row}
use Rattle.value_columns.proofs.Standing.{leaf_below, leaves_below}
use Rattle.value_columns.proofs.MoreColumns.{one_column}
use Rattle.value_columns.proofs.restriction.choose_rows.Goals as goal

pub width-leaf-end-requires : goal.width-leaf-end-requires
width-leaf-end-requires c =
    let all = leaves_below c.args.rows (leaves (local_type_of c.args.ty.now)) c.requires.has_rows in
    omega (arith, all, c.requires.within, c.args.words.now.ok.0)

pub loop-leaf-preserved : goal.loop-leaf-preserved
loop-leaf-preserved c =
    let was = c.loop-leaf.invariant in
    let column = c.in_ok-choose_column.ensures in
    let old = c.args.words.now.items in
    let kept = c.args.kept.now in
    let rows = c.args.rows in
    let leaf = c.loop-leaf.leaf in
    record {
      long = omega (arith, was.long, column.long);
      stay = λ p h. column.stay p (omega (arith, was.long)) ∙ was.stay p h;
      chosen = one_column c.loop-leaf.words.items c.choose_column.new.words.items (length old) (length kept)
          (λ k j. word_in old (c.args.at + rows * k + word_in kept j)) leaf was.long was.chosen column.stay
          (λ j h. column.chosen j h ∙ was.stay (c.args.at + rows * leaf + word_in kept j)
          (omega (
            arith,
            c.requires.within,
            leaf_below rows (word_in kept j) leaf (leaves (local_type_of c.args.ty.now))
                (c.requires.below j h) (omega arith),
          )));
    }

pub returns-clause-chosen : goal.returns-clause-chosen
returns-clause-chosen c = λ j h. same_row (local_type_of c.args.ty.now) c.loop-leaf.words.items c.args.words.now.items
    (length c.args.kept.now) c.args.rows (length c.args.words.now.items) c.args.at j (word_in c.args.kept.now j)
    (λ k l. c.loop-leaf.invariant.chosen k j (omega arith) h)
