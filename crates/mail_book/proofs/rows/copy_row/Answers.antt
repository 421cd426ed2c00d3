use Rattle.std.proofs.Common.{List, [], ◌∷◌, ◌++◌, take, sym, subst}
use Rattle.mail_book.specs.declared.letters.Letters.{Letters}
use Rattle.mail_book.specs.Letters.{SameRow}
use Rattle.mail_book.proofs.Copying.{same_more}
use Rattle.mail_book.proofs.Taking.{take_more}
use Rattle.mail_book.proofs.rows.copy_row.Goals as goal

pub loop-letters-preserved : goal.loop-letters-preserved
loop-letters-preserved c =
    let row = c.args.row.now in
    let i = c.loop-letters.letters-index in
    subst (λ (s : List Letters). SameRow s c.push.new.self.items) (sym (take_more row i c.letters-item.result c.loop-letters-test.true c.letters-item.is))
    (subst (λ (s : List Letters). SameRow (take i row ++ c.letters-item.result ∷ []) s) (sym c.in_ok-push.ensures.items)
    (same_more (take i row) c.loop-letters.copies.items c.letters-item.result c.in_ok-copy_letters.field-0 c.loop-letters.invariant c.in_ok-copy_letters.ensures))
