use Rattle.std.proofs.Common.{◌≡◌, ◌+◌, ℕ, suc, List, [], ◌∷◌, ◌++◌, length, take, get_or, true, sym, ◌∙◌, ap, subst, arith}
use Rattle.std.proofs.Math.Seq.{take-suc}
use Rattle.fc_values.specs.Fields.{is_in}
use Rattle.value_trees.specs.Snaps.{tree_of}
use Rattle.topology.specs.Networks.{near}
use Rattle.topology.specs.Nearby.{neighbour_numbers}
use Rattle.message_links.specs.MailCores.{reaches}
use Rattle.message_links.proofs.Reaching.{near_both}
use Rattle.mail_book.specs.Rows.{lists_of}
use Rattle.firing_core.proofs.Slots.{Distinct}
use Rattle.mail_book.proofs.PairLookups.{near_apart_at}
use Rattle.mail_book.proofs.Posting.{PostsAmong, among_more, among_all, fresh_at, in_at}
use Rattle.mail_book.proofs.Taking.{take_all}
use Rattle.mail_book.proofs.rows.post_all.Goals as goal

pub loop-neighbour-preserved : goal.loop-neighbour-preserved
loop-neighbour-preserved c =
    let N = c.args.net.now in
    let net = c.neighbours-neighbour-items.ensures.network in
    let d = c.args.sending.now.device in
    let ns = c.neighbours-neighbour-items.result.now in
    let i = c.loop-neighbour.neighbour-index in
    let n : ℕ × ℕ = get_or ns i (0, 0) in
    let whole : ns ≡ near N d = c.neighbours-neighbour-items.ensures.value in
    let apart : Distinct (neighbour_numbers ns) = subst (λ (xs : List (ℕ × ℕ)). Distinct (neighbour_numbers xs)) (sym whole) (near_apart_at N d net) in
    let linked : reaches N d n.0 ≡ true = sym (near_both N d n.0 net) ∙ ap (λ (xs : List (ℕ × ℕ)). is_in n.0 (neighbour_numbers xs)) (sym whole) ∙ in_at ns i (0, 0) c.loop-neighbour-test.true in
    let one : i + 1 ≡ suc i = omega arith in
    let more : take (i + 1) ns ≡ take i ns ++ n ∷ [] = ap (λ (k : ℕ). take k ns) one ∙ take-suc ns i (0, 0) c.loop-neighbour-test.true in
    record {
      shape = c.in_ok-post_to.ensures.shape;
      among = λ U all typed.
          let was = c.loop-neighbour.invariant.among U all typed in
          subst (λ (xs : List (ℕ × ℕ)). PostsAmong U N d xs c.args.sending.now.sent (tree_of U c.args.sending.now.export.now) (lists_of c.args.rows.now.items) (lists_of c.post_to.new.rows.items)) (sym more)
          (among_more U N d (take i ns) n c.args.sending.now.sent (tree_of U c.args.sending.now.export.now) (lists_of c.args.rows.now.items) (lists_of c.loop-neighbour.rows.items) (lists_of c.post_to.new.rows.items)
          (fresh_at ns i (0, 0) apart c.loop-neighbour-test.true) linked was (c.in_ok-post_to.ensures.posts U was.letters typed));
    }

pub returns : goal.returns
returns c =
    let N = c.args.net.now in
    let ns = c.neighbours-neighbour-items.result.now in
    let i = c.loop-neighbour.neighbour-index in
    let all : length ns ≡ i = omega (arith, c.loop-neighbour-test.false, c.loop-neighbour.auto.neighbour-index-end) in
    let whole : take i ns ≡ near N c.args.sending.now.device = take_all ns i all ∙ c.neighbours-neighbour-items.ensures.value in
    record {
      posts = λ U letters typed. among_all U N c.args.sending.now.device (take i ns) c.args.sending.now.sent (tree_of U c.args.sending.now.export.now) (lists_of c.args.rows.now.items) (lists_of c.loop-neighbour.rows.items)
          c.neighbours-neighbour-items.ensures.network whole (c.loop-neighbour.invariant.among U letters typed);
      shape = c.loop-neighbour.invariant.shape;
      letters = λ U letters typed. (c.loop-neighbour.invariant.among U letters typed).letters;
    }
