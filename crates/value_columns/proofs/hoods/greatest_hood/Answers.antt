use Rattle.std.proofs.Common.{◌≡◌, ◌+◌, ◌-◌, ◌*◌}
use Rattle.fc_values.specs.Types.{local_type_of}
use Rattle.fc_values.specs.Builtins.{greatest_of}
use Rattle.value_columns.specs.Columns.{local_in}
use Rattle.value_columns.specs.LoneRows.{value_in}
use Rattle.value_columns.specs.OtherRows.{rows_in}
use Rattle.value_columns.proofs.OtherReads.{folded, greatest_append}
use Rattle.value_columns.proofs.hoods.greatest_hood.Goals as goal

pub returns-clause-greatest : goal.returns-clause-greatest
returns-clause-greatest c =
    let t = local_type_of c.args.ty.now in
    let old = c.args.words.now.items in
    let rows = c.args.rows in
    let at = c.args.at in
    let own = c.args.own in
    let first = c.greatest-first.result in
    let best = c.greatest-best.result in
    let many = c.width-many.result in
    let once : value_in old t first
    ≡ greatest_of (local_in old t (at + rows * many)) (rows_in old t rows at 0 (own - 0)) =
    rw c.deref.ensures.value at c.greatest-first.ensures.greatest in
    let twice : value_in old t best
    ≡ greatest_of (value_in old t first) (rows_in old t rows at (own + 1) (rows - (own + 1))) =
    rw c.deref-2.ensures.value at c.greatest-best.ensures.greatest in
    folded greatest_of greatest_append old c.end_with_row.new.words.items t rows at own many first best
    c.width-many.ensures once twice c.end_with_row.ensures.leaves
