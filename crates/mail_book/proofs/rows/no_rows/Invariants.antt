use Rattle.std.proofs.Common.{take, map}
use Rattle.topology.specs.Networks.{net_device_of, numbers}
use Rattle.mail_book.specs.Pairs.{AreRows}
use Rattle.mail_book.specs.Rows.{lists_of, AreQuiet}
use Rattle.mail_book.proofs.rows.no_rows.Given as goal

abbrev pub invariant-loop-device : goal.invariant-loop-device
invariant-loop-device l = record {
  shape : AreRows l.net (numbers (map net_device_of (take l.device-index l.device-items))) (lists_of l.rows.items);
  quiet : AreQuiet (lists_of l.rows.items);
}
