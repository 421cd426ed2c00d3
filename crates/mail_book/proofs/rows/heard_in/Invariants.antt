use Rattle.std.proofs.Common.{◌≡◌, ◌++◌, map, drop}
use Rattle.fc_nodes.specs.Program.{Unfolding}
use Rattle.value_trees.specs.Snaps.{near_copy, NearAreExports}
use Rattle.mail_book.specs.Letters.{AllLetters}
use Rattle.mail_book.specs.Rows.{heard_copies}
use Rattle.mail_book.proofs.rows.heard_in.Given as goal

abbrev pub invariant-loop-at : goal.invariant-loop-at
invariant-loop-at l = record {
  copies : (U : Unfolding) → map (near_copy U) l.near.items ++ heard_copies U (drop l.at l.neighbours) (drop l.at l.row) ≡ heard_copies U l.neighbours l.row;
  exports : (U : Unfolding) → AllLetters U l.row → NearAreExports U l.near.items;
}
