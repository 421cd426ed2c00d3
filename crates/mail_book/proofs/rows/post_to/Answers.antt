use Rattle.std.proofs.Common.{◌≡◌, List, [], get_or, refl, sym, ap, subst, arith}
use Rattle.std.specs.Prelude.{slice_set}
use Rattle.std.specs.Vec.{with_item}
use Rattle.fc_values.specs.Exports.{export_of}
use Rattle.fc_nodes.specs.Program.{Unfolding}
use Rattle.value_trees.specs.Snaps.{tree_of, IsExportOf}
use Rattle.topology.specs.Networks.{numbers}
use Rattle.message_links.specs.MailCores.{pushed}
use Rattle.mail_book.specs.declared.letters.Message.{Message}
use Rattle.mail_book.specs.declared.letters.Letters.{Letters}
use Rattle.mail_book.specs.Pairs.{AreRows}
use Rattle.mail_book.specs.Rows.{lists_of, AllRows, PostsTo}
use Rattle.mail_book.proofs.Answered.{ok_map, in_both}
use Rattle.mail_book.proofs.LetterWrites.{row_there, item_there, item_is, written_is, rewritten, rewritten_shape, rewritten_letters, letters_there}
use Rattle.mail_book.proofs.MessageSteps.{same_letters}
use Rattle.mail_book.proofs.Posting.{posted_to}
use Rattle.mail_book.proofs.rows.post_to.Goals as goal

pub index_mut-requires : goal.index_mut-requires
index_mut-requires c =
    let w = row_there c.args.net.now c.pair_place.ensures.network c.args.rows.now.items c.requires c.args.sending.now.device c.args.to c.in-Some.row c.in-Some.at c.in-Some.ensures.place in
    omega (arith, w, c.args.rows.now.ok.0)

pub index_mut-requires-2 : goal.index_mut-requires-2
index_mut-requires-2 c =
    let w = item_there c.args.net.now c.pair_place.ensures.network c.args.rows.now.items c.requires c.args.sending.now.device c.args.to c.in-Some.row c.in-Some.at c.in-Some.ensures.place c.index_mut.result.now c.index_mut.ensures.value in
    omega (arith, w, c.index_mut.result.now.ok.0)

module _ (c : goal.After-rows-1) where
  is : c.index_mut-2.result.now ≡ get_or (get_or (lists_of c.args.rows.now.items) c.in-Some.row []) c.in-Some.at c.index_mut-2.result.now
  is = item_is c.args.net.now c.pair_place.ensures.network c.args.rows.now.items c.requires c.args.sending.now.device c.args.to c.in-Some.row c.in-Some.at c.in-Some.ensures.place c.index_mut.result.now c.index_mut.ensures.value c.index_mut-2.result.now c.index_mut-2.ensures.value

  abbrev new_rows : List (List Letters)
  new_rows = rewritten c.args.net.now c.pair_place.ensures.network (lists_of c.args.rows.now.items) c.requires c.args.sending.now.device c.args.to (c.in-Some.row, c.in-Some.at) c.in-Some.ensures.place c.post.new.letters

  written : lists_of (slice_set c.args.rows.now.items c.in-Some.row (with_item c.index_mut.result.now c.in-Some.at c.post.new.letters)) ≡ new_rows
  written = written_is c.args.net.now c.pair_place.ensures.network c.args.rows.now.items c.requires c.args.sending.now.device c.args.to c.in-Some.row c.in-Some.at c.in-Some.ensures.place c.index_mut.result.now c.index_mut.ensures.value c.post.new.letters

  abbrev message : Message
  message = record { export = c.in_ok-export.export; sent = c.args.sending.now.sent }

  posts : (U : Unfolding) → AllRows U (lists_of c.args.rows.now.items) → IsExportOf U c.args.sending.now.export.now → c.post.new.letters.transit.items ≡ pushed c.index_mut-2.result.now.transit.items message
      → PostsTo U c.args.net.now c.args.sending.now.device c.args.to c.args.sending.now.sent (tree_of U c.args.sending.now.export.now) (lists_of c.args.rows.now.items) new_rows
  posts U all typed t =
      posted_to c.args.net.now c.pair_place.ensures.network (lists_of c.args.rows.now.items) c.requires c.args.sending.now.device c.args.to (c.in-Some.row, c.in-Some.at) c.in-Some.ensures.place U all c.args.sending.now.export.now typed c.args.sending.now.sent
      c.index_mut-2.result.now c.post.new.letters message is (ap export_of c.in_ok-export.ensures) refl c.post.ensures.heard t

  kept : (U : Unfolding) → AllRows U (lists_of c.args.rows.now.items) → c.post.new.letters.transit.items ≡ c.index_mut-2.result.now.transit.items → AllRows U new_rows
  kept U all q =
      rewritten_letters c.args.net.now c.pair_place.ensures.network (lists_of c.args.rows.now.items) c.requires c.args.sending.now.device c.args.to (c.in-Some.row, c.in-Some.at) c.in-Some.ensures.place U c.post.new.letters all
      (same_letters U c.index_mut-2.result.now c.post.new.letters c.post.ensures.heard q
      (letters_there c.args.net.now c.pair_place.ensures.network (lists_of c.args.rows.now.items) c.requires c.args.sending.now.device c.args.to (c.in-Some.row, c.in-Some.at) c.in-Some.ensures.place U c.index_mut-2.result.now is all))

pub returns : goal.returns
returns c = record {
  posts = λ U all typed. ok_map c.post.result
      (λ t. subst (λ (rows : List (List Letters)). PostsTo U c.args.net.now c.args.sending.now.device c.args.to c.args.sending.now.sent (tree_of U c.args.sending.now.export.now) (lists_of c.args.rows.now.items) rows) (sym (written c)) (posts c U all typed t))
      c.post.ensures.transit;
  shape = subst (λ (rows : List (List Letters)). AreRows c.args.net.now (numbers c.args.net.now.devices) rows) (sym (written c))
      (rewritten_shape c.args.net.now c.pair_place.ensures.network (lists_of c.args.rows.now.items) c.requires c.args.sending.now.device c.args.to (c.in-Some.row, c.in-Some.at) c.in-Some.ensures.place c.post.new.letters);
  letters = λ U all typed. subst (AllRows U) (sym (written c)) (in_both c.post.result (λ t. (posts c U all typed t).letters) (λ q. kept c U all q) c.post.ensures.transit c.post.ensures.err);
}
