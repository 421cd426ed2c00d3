use Rattle.std.proofs.Common.{take}
use Rattle.fc_nodes.specs.Program.{Unfolding}
use Rattle.value_trees.specs.Snaps.{tree_of, IsExportOf}
use Rattle.topology.specs.Networks.{numbers}
use Rattle.mail_book.specs.Pairs.{AreRows}
use Rattle.mail_book.specs.Rows.{lists_of, AllRows}
use Rattle.mail_book.proofs.Posting.{PostsAmong}
use Rattle.mail_book.proofs.rows.post_all.Given as goal

abbrev pub invariant-loop-neighbour : goal.invariant-loop-neighbour
invariant-loop-neighbour l = record {
  shape : AreRows l.net (numbers l.net.devices) (lists_of l.rows.items);
  among : (U : Unfolding) → AllRows U (lists_of l.fn.rows.items) → IsExportOf U l.sending.export.now
      → PostsAmong U l.net l.sending.device (take l.neighbour-index l.neighbour-items) l.sending.sent (tree_of U l.sending.export.now) (lists_of l.fn.rows.items) (lists_of l.rows.items);
}
