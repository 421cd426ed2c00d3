use Rattle.std.proofs.Common.{◌≡◌, List, length, arith, subst}
use Rattle.mail_book.specs.declared.starts.Post.{Post}
use Rattle.mail_book.specs.Rows.{lists_of}
use Rattle.mail_book.specs.Starts.{Hears, post_values}
use Rattle.mail_book.proofs.Starting.{held_at, hears_more}
use Rattle.mail_book.proofs.Taking.{take_all}
use Rattle.mail_book.proofs.starts.hear_all.Goals as goal

pub loop-post-preserved : goal.loop-post-preserved
loop-post-preserved c = record {
  shape = c.in_ok-hear_one.ensures.shape;
  hears = λ U all held.
      let was = c.loop-post.invariant.hears U all held in
      let here = held_at U c.args.net.now c.args.posts.now c.loop-post.post-index c.post-item.result held c.loop-post-test.true c.post-item.is in
      hears_more U c.args.net.now c.args.posts.now c.loop-post.post-index c.post-item.result (lists_of c.args.rows.now.items) (lists_of c.loop-post.rows.items) (lists_of c.hear_one.new.rows.items)
      c.loop-post-test.true c.post-item.is was (c.in_ok-hear_one.ensures.hears U was.letters here.0 here.1);
}

pub returns-clause-hears : goal.returns-clause-hears
returns-clause-hears c U all held =
    let read : length c.args.posts.now ≡ c.loop-post.post-index = omega (arith, c.loop-post-test.false, c.loop-post.auto.post-index-end) in
    subst (λ (ps : List Post). Hears U c.args.net.now (post_values U ps) (lists_of c.args.rows.now.items) (lists_of c.loop-post.rows.items)) (take_all c.args.posts.now c.loop-post.post-index read) (c.loop-post.invariant.hears U all held)
