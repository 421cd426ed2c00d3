use Rattle.std.proofs.Common.{take}
use Rattle.mail_book.specs.Letters.{SameRow}
use Rattle.mail_book.proofs.rows.copy_row.Given as goal

abbrev pub invariant-loop-letters : goal.invariant-loop-letters
invariant-loop-letters l = SameRow (take l.letters-index l.row) l.copies.items
