use Rattle.std.proofs.Common.{sym, ap, ◌∙◌}
use Rattle.topology.specs.Networks.{numbers}
use Rattle.fc_values.specs.Fields.{is_in}
use Rattle.topology.specs.Nearby.{neighbour_numbers}
use Rattle.topology.proofs.Neighbours.{near_linked, near_none}
use Rattle.topology.proofs.drafts.Draft.are_linked.Goals as goal

pub returns-in-None-clause-linked : goal.returns-in-None-clause-linked
returns-in-None-clause-linked c =
    let n = c.args.self.now in
    let net = c.in-None.ensures.network in
    sym (ap (λ ns. is_in c.args.b (neighbour_numbers ns)) (near_none n.declared (numbers n.devices) c.args.a n.links net.links c.in-None.ensures.none))
    ∙ near_linked n.declared (numbers n.devices) c.args.a c.args.b n.links net.links
