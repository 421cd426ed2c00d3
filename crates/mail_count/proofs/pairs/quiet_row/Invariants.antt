use Rattle.std.proofs.Common.{◌≡◌, length, map, take, replicate, false}
use Rattle.topology.specs.Nearby.{neighbour_numbers}
use Rattle.mail_book.specs.MailViews.{mail_of}
use Rattle.mail_count.specs.Marks.{own_row, brought_row}
use Rattle.mail_count.proofs.pairs.quiet_row.Given as goal

abbrev pub invariant-loop-to : goal.invariant-loop-to
invariant-loop-to l = record {
  own : own_row l.row.items ≡ map (λ to. replicate (length ((mail_of l.mail).transit l.from to)) false) (neighbour_numbers (take l.to-index l.to-items));
  brought : brought_row l.row.items ≡ map (λ to. false) (neighbour_numbers (take l.to-index l.to-items));
}
