use Rattle.std.proofs.Common.{rules, of_calls, ◌∙◌, sym}
use Rattle.std.proofs.lemmas.Fn.{always_returns_same}
use Rattle.topology.specs.declared.types.Link.{Link}
use Rattle.topology.specs.Networks.{edge_of}
use Rattle.topology.specs.Changes.{is_before}
use Rattle.topology.proofs.Lists.{front_is, front_len, prefix_map}
use Rattle.topology.proofs.Orders.{links_parted}
use Rattle.topology.proofs.places.room_for_link.Goals as goal

pub returns-clause-value : goal.returns-clause-value
returns-clause-value c =
    let p = λ (l : Link). is_before c.args.a c.args.b (edge_of l) in
    let point = c.partition_point.ensures.partitioned p (always_returns_same _ _ _ (λ a r f k. search (rules, of_calls))) (links_parted c.args.a c.args.b c.args.links.now c.requires) in
    front_is p c.args.links.now c.partition_point.result c.partition_point.ensures.bound point
    ∙ sym (front_len p c.args.links.now) ∙ prefix_map edge_of (is_before c.args.a c.args.b) c.args.links.now
