use Rattle.std.proofs.Common.{◌≡◌, length}
use Rattle.mail_book.specs.Letters.{AllQuiet}
use Rattle.mail_book.proofs.rows.no_row.Given as goal

abbrev pub invariant-loop : goal.invariant-loop
invariant-loop l = record { long : length l.row.items ≡ l.counter; quiet : AllQuiet l.row.items }
