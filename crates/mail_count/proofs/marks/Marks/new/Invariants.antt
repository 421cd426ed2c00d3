use Rattle.std.proofs.Common.{◌≡◌, ◌≤◌, ◌*◌, length, map, take, replicate, false}
use Rattle.topology.specs.Networks.{net_device_of, numbers}
use Rattle.mail_book.specs.MailViews.{mail_of}
use Rattle.mail_count.specs.Marks.{own_rows, brought_rows, row_of, many}
use Rattle.mail_count.proofs.marks.Marks.new.Given as goal

abbrev pub invariant-loop-device : goal.invariant-loop-device
invariant-loop-device l = record {
  own : own_rows l.rows.items ≡ map (row_of l.mail.core.net (λ a b. replicate (length ((mail_of l.mail).transit a b)) false)) (numbers (map net_device_of (take l.device-index l.devices)));
  brought : brought_rows l.rows.items ≡ map (row_of l.mail.core.net (λ a b. false)) (numbers (map net_device_of (take l.device-index l.devices)));
  pairs : l.pairs ≡ many (brought_rows l.rows.items);
  few : l.pairs ≤ 32 * l.device-index;
}
