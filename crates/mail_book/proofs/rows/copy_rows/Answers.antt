use Rattle.std.proofs.Common.{◌≡◌, List, [], ◌∷◌, ◌++◌, take, sym, ◌∙◌, ◌+◌, ap, subst}
use Rattle.mail_book.specs.declared.letters.Letters.{Letters}
use Rattle.mail_book.specs.Letters.{SameRow}
use Rattle.mail_book.specs.Rows.{lists_of, SameRows}
use Rattle.mail_book.proofs.Copying.{same_rows_more}
use Rattle.mail_book.proofs.LetterWrites.{lists_more}
use Rattle.mail_book.proofs.Taking.{take_more}
use Rattle.mail_book.proofs.rows.copy_rows.Goals as goal

pub loop-row-preserved : goal.loop-row-preserved
loop-row-preserved c =
    let rows = c.args.rows.now in
    let i = c.loop-row.row-index in
    let old : lists_of (take (i + 1) rows) ≡ lists_of (take i rows) ++ c.row-item.result.items ∷ [] =
    ap lists_of (take_more rows i c.row-item.result c.loop-row-test.true c.row-item.is) ∙ lists_more (take i rows) c.row-item.result in
    let new : lists_of c.push.new.self.items ≡ lists_of c.loop-row.copies.items ++ c.in_ok-copy_row.field-0.items ∷ [] = ap lists_of c.in_ok-push.ensures.items ∙ lists_more c.loop-row.copies.items c.in_ok-copy_row.field-0 in
    let same : SameRow c.row-item.result.items c.in_ok-copy_row.field-0.items = subst (λ (r : List Letters). SameRow r c.in_ok-copy_row.field-0.items) c.deref.ensures.value c.in_ok-copy_row.ensures in
    subst (λ (s : List (List Letters)). SameRows s (lists_of c.push.new.self.items)) (sym old)
    (subst (λ (s : List (List Letters)). SameRows (lists_of (take i rows) ++ c.row-item.result.items ∷ []) s) (sym new)
    (same_rows_more (lists_of (take i rows)) (lists_of c.loop-row.copies.items) c.row-item.result.items c.in_ok-copy_row.field-0.items c.loop-row.invariant same))
