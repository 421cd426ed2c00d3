use Rattle.std.proofs.Common.{◌∙◌, ap, arith, not, nat_eq}
use Rattle.topology.specs.Networks.{NetDevice}
use Rattle.topology.specs.Changes.{drop_links}
use Rattle.topology.proofs.Lists.{filter_length}
use Rattle.topology.proofs.networks.Network.leave.Goals as goal

pub invariant_of-self-2 : goal.invariant_of-self-2
invariant_of-self-2 c =
    let n = c.self.inside.draft in
    let k = c.self.invariant.room in
    rw c.in_ok-leave.ensures.ok (record {
      links = c.drop_links.ensures.links ∙ ap (drop_links c.args.device) c.self.invariant.links;
      room = omega (arith, filter_length (λ (m : NetDevice). not (nat_eq c.args.device m.id)) n.devices, c.drop_links.ensures.room);
    })
