use Rattle.std.proofs.Common.{take}
use Rattle.fc_nodes.specs.Program.{Unfolding}
use Rattle.topology.specs.Networks.{numbers}
use Rattle.mail_book.specs.Pairs.{AreRows}
use Rattle.mail_book.specs.Rows.{lists_of, AllRows}
use Rattle.mail_book.specs.Starts.{AreHeld, Sends, post_values}
use Rattle.mail_book.proofs.starts.send_all.Given as goal

abbrev pub invariant-loop-post : goal.invariant-loop-post
invariant-loop-post l = record {
  shape : AreRows l.net (numbers l.net.devices) (lists_of l.rows.items);
  sends : (U : Unfolding) → AllRows U (lists_of l.fn.rows.items) → AreHeld U l.net l.posts
      → Sends U l.net (post_values U (take l.post-index l.posts)) (lists_of l.fn.rows.items) (lists_of l.rows.items);
}
