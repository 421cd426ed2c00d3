use Rattle.std.proofs.Common.{◌≡◌, ◌+◌, ◌*◌, ◌<◌, ◌≤◌, ◌∙◌, length, arith}
use Rattle.std.proofs.lemmas.List.{get_or_read, get_or-set_other, length-set}
use Rattle.value_columns.specs.Columns.{word_in}
use Rattle.value_columns.proofs.Standing.{leaf_moved, leaf_within, leaves_below, row_fits}
use Rattle.value_columns.proofs.hoods.end_with_row.Goals as goal

pub loop-leaf-preserved : goal.loop-leaf-preserved
loop-leaf-preserved c =
    let was = c.loop-leaf.invariant in
    let old = c.args.words.now.items in
    let mid = c.loop-leaf.words.items in
    let leaf = c.loop-leaf.leaf in
    let at = c.args.at in
    let first = c.args.row.first in
    let step = c.args.row.step in
    let w = c.index.result.now in
    let inside : first + step * leaf < length old =
    leaf_within first step c.args.width leaf (length old) c.requires.within (omega arith) in
    let lower : at + leaf ≤ first + step * leaf = omega (arith, leaves_below step leaf c.requires.behind.1) in
    let read : w ≡ word_in old (first + step * leaf) =
    get_or_read mid (first + step * leaf) w (omega (arith, was.long)) c.index.ensures 0
    ∙ was.unread (first + step * leaf) lower in
    record {
      long = length-set mid (at + leaf) w ∙ was.long;
      before = λ p h. get_or-set_other mid (at + leaf) p w 0 (λ e. omega arith) ∙ was.before p h;
      leaves = leaf_moved old mid at first step leaf w (omega (arith, was.long)) read was.leaves;
      unread = λ p h. get_or-set_other mid (at + leaf) p w 0 (λ e. omega arith) ∙ was.unread p (omega arith);
    }

pub returns-clause-long : goal.returns-clause-long
returns-clause-long c =
    let fits : c.args.at + c.args.width ≤ length c.args.words.now.items =
    row_fits c.args.at c.args.row.first c.args.row.step c.args.width (length c.args.words.now.items)
    c.requires.behind.0 c.requires.behind.1 c.requires.has_leaf c.requires.within in
    omega (arith, c.loop-leaf.invariant.long, c.truncate.ensures.len, c.truncate.new.self.ok.0, c.loop-leaf.words.ok.0)
