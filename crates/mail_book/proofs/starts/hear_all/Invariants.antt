use Rattle.std.proofs.Common.{take}
use Rattle.fc_nodes.specs.Program.{Unfolding}
use Rattle.topology.specs.Networks.{numbers}
use Rattle.mail_book.specs.Pairs.{AreRows}
use Rattle.mail_book.specs.Rows.{lists_of, AllRows}
use Rattle.mail_book.specs.Starts.{AreHeld, Hears, post_values}
use Rattle.mail_book.proofs.starts.hear_all.Given as goal

abbrev pub invariant-loop-post : goal.invariant-loop-post
invariant-loop-post l = record {
  shape : AreRows l.net (numbers l.net.devices) (lists_of l.rows.items);
  hears : (U : Unfolding) → AllRows U (lists_of l.fn.rows.items) → AreHeld U l.net l.posts
      → Hears U l.net (post_values U (take l.post-index l.posts)) (lists_of l.fn.rows.items) (lists_of l.rows.items);
}
