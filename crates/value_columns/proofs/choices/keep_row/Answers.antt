use Rattle.std.proofs.Common.{ℕ, ap, sym, ◌∙◌, length}
use Rattle.fc_values.specs.Types.{leaves, local_type_of}
use Rattle.value_columns.specs.Columns.{row_in}
use Rattle.value_columns.proofs.Rows.{copied_place, stands_below}
use Rattle.value_columns.proofs.choices.keep_row.Goals as goal

pub copy_row-requires-clause-within : goal.copy_row-requires-clause-within
copy_row-requires-clause-within c =
    stands_below (length c.args.words.now) c.width.result (leaves (local_type_of c.args.ty.now)) c.args.first.step c.args.second.step
    c.args.second.first c.width.ensures c.requires.step c.requires.stands

pub returns-then-takes_second-clause-kept : goal.returns-then-takes_second-clause-kept
returns-then-takes_second-clause-kept c =
    let t = local_type_of c.args.ty.now in
    copied_place t c.args.words.now c.copy_row.new.words c.args.first.step _ c.args.second.first c.args.first.first
    c.width.ensures c.copy_row.ensures.copied
    ∙ ap (λ (n : ℕ). row_in c.args.words.now t n c.args.second.first 0) (sym c.requires.step)
    ∙ (rw c.if-takes_second.true at c.takes_second.ensures)
