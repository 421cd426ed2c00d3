use Rattle.alignment.specs.Slots.{NearSlots}
use Rattle.alignment.specs.References.{near_of, nears_of}
use Rattle.scope_columns.proofs.ColumnParts.{parts_at, row_between}
use Rattle.scope_columns.proofs.OwnRow.{links_added, links_value}
use Rattle.scope_columns.proofs.links.push_links.Goals as goal

pub split_at-requires : goal.split_at-requires
split_at-requires c =
    parts_at c.args.device c.args.sight.now.own c.args.sight.now.env.now.near.items c.as_slice.ensures c.requires

pub returns : goal.returns
returns c =
    let near = c.args.sight.now.env.now.near.items in
    let row = c.args.sight.now.own in
    let all = row_between near_of (λ (n : NearSlots). n.1) row c.args.least near c.args.words.now.items
    c.as_slice.ensures c.split_at.ensures.front c.split_at.ensures.back c.in_ok-push_weights.ensures
    c.in_ok-push.ensures.items c.in_ok-push_weights-2.ensures in
    record {
      added = links_added c.args.device c.args.least row (nears_of near) c.requires c.args.words.now.items
          c.push_weights-2.new.words.items all;
      value = links_value c.args.device c.args.least row (nears_of near) c.requires c.args.words.now.items
          c.push_weights-2.new.words.items all;
    }
