use Rattle.std.proofs.Common.{take}
use Rattle.mail_book.specs.Rows.{lists_of, SameRows}
use Rattle.mail_book.proofs.rows.copy_rows.Given as goal

abbrev pub invariant-loop-row : goal.invariant-loop-row
invariant-loop-row l = SameRows (lists_of (take l.row-index l.rows)) (lists_of l.copies.items)
