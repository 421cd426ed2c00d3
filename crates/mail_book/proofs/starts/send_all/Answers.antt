use Rattle.std.proofs.Common.{◌≡◌, ◌∙◌, List, length, arith, subst, sym, ap, None}
use Rattle.fc_values.specs.Exports.{FlatExport, export_of}
use Rattle.fc_nodes.specs.Flat.{tree_export, IsExport}
use Rattle.mail_book.specs.declared.starts.Post.{Post}
use Rattle.mail_book.specs.Rows.{lists_of, PostsTo}
use Rattle.mail_book.specs.Starts.{Sends, post_values}
use Rattle.mail_book.proofs.Starting.{held_at, sends_more}
use Rattle.mail_book.proofs.Taking.{take_all}
use Rattle.mail_book.proofs.starts.send_all.Goals as goal

pub loop-post-preserved : goal.loop-post-preserved
loop-post-preserved c = record {
  shape = c.in_ok-post_to.ensures.shape;
  sends = λ U all held.
      let was = c.loop-post.invariant.sends U all held in
      let here = held_at U c.args.net.now c.args.posts.now c.loop-post.post-index c.post-item.result held c.loop-post-test.true c.post-item.is in
      let same : export_of c.in_ok-export.export ≡ export_of c.post-item.result.export = ap export_of c.in_ok-export.ensures ∙ c.in_ok-copy_export.ensures in
      let sent = c.in_ok-post_to.ensures.posts U was.letters (subst (IsExport U) (sym same) here.1) in
      sends_more U c.args.net.now c.args.posts.now c.loop-post.post-index c.post-item.result (lists_of c.args.rows.now.items) (lists_of c.loop-post.rows.items) (lists_of c.post_to.new.rows.items)
      c.loop-post-test.true c.post-item.is here.0 was (subst (λ (e : FlatExport). PostsTo U c.args.net.now c.post-item.result.from c.post-item.result.to None (tree_export U e) (lists_of c.loop-post.rows.items) (lists_of c.post_to.new.rows.items)) same sent);
}

pub returns-clause-sends : goal.returns-clause-sends
returns-clause-sends c U all held =
    let read : length c.args.posts.now ≡ c.loop-post.post-index = omega (arith, c.loop-post-test.false, c.loop-post.auto.post-index-end) in
    subst (λ (ps : List Post). Sends U c.args.net.now (post_values U ps) (lists_of c.args.rows.now.items) (lists_of c.loop-post.rows.items)) (take_all c.args.posts.now c.loop-post.post-index read) (c.loop-post.invariant.sends U all held)
