use Rattle.std.proofs.Common.{◌∙◌, ap, arith, nat_lt, length, ◌<◌}
use Rattle.std.specs.List.{insert, prefix_len}
use Rattle.topology.specs.Nearby.{insert_near}
use Rattle.topology.proofs.Lists.{prefix_within}
use Rattle.fc_values.proofs.Lists.{insert_prefix}
use Rattle.topology.proofs.nearby.put_near.Goals as goal

pub insert-requires : goal.insert-requires
insert-requires c =
    let w = prefix_within (λ n. nat_lt n.0 c.args.device) c.drop_near.new.near.items in
    let k : length c.drop_near.new.near.items < 32 = rw c.drop_near.ensures c.requires in
    (omega arith, (omega (arith, c.place_near-at.ensures, ap (prefix_len (λ n. nat_lt n.0 c.args.device)) c.as_slice.ensures.value), k))

pub returns : goal.returns
returns c =
    c.insert.ensures.items
    ∙ ap (λ k. insert c.drop_near.new.near.items k (c.args.device, c.args.weight)) (c.place_near-at.ensures ∙ ap (prefix_len (λ n. nat_lt n.0 c.args.device)) c.as_slice.ensures.value)
    ∙ insert_prefix (λ n. nat_lt n.0 c.args.device) (c.args.device, c.args.weight) c.drop_near.new.near.items
    ∙ ap (insert_near c.args.device c.args.weight) c.drop_near.ensures
