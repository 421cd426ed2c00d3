use Rattle.std.proofs.Common.{[], ◌∷◌, length, length-append, sym, ap, subst, arith}
use Rattle.mail_book.specs.declared.letters.Letters.{Letters}
use Rattle.mail_book.specs.Letters.{AllQuiet}
use Rattle.mail_book.proofs.Copying.{quiet_more}
use Rattle.mail_book.proofs.rows.no_row.Goals as goal

pub loop-preserved : goal.loop-preserved
loop-preserved c = record {
  long = omega (arith, ap (length {A = Letters}) c.in_ok-push.ensures.items, length-append c.loop.row.items (c.no_letters.result ∷ []), c.loop.invariant.long);
  quiet = subst AllQuiet (sym c.in_ok-push.ensures.items) (quiet_more c.loop.row.items c.no_letters.result c.loop.invariant.quiet c.no_letters.ensures);
}
