use Rattle.std.proofs.Common.{◌∙◌, sym, ap, subst, ℕ}
use Rattle.arrayvec.specs.ArrayVec.{ArrayVec}
use Rattle.topology.specs.Networks.{Network, numbers}
use Rattle.fc_values.specs.Fields.{is_in}
use Rattle.topology.specs.Changes.{are_linked}
use Rattle.topology.specs.Nearby.{neighbour_numbers, AtPlace}
use Rattle.topology.proofs.Neighbours.{near_linked}
use Rattle.topology.proofs.Kept.{list_at}
use Rattle.topology.specs.contracts.drafts.Draft.{the_view}
use Rattle.topology.proofs.drafts.Draft.has_near.Goals as goal

pub returns : goal.returns
returns c =
    let n = the_view c.self.inside in
    let place : AtPlace (the_view c.self.inside) c.args.a c.args.at = subst (λ v. AtPlace v c.args.a c.args.at) (sym c.self.view_is) c.requires in
    c.is_near.ensures ∙ ap (λ (v : ArrayVec (ℕ × ℕ)). is_in c.args.b (neighbour_numbers v.items)) c.index.ensures
    ∙ ap (λ ns. is_in c.args.b (neighbour_numbers ns)) (list_at n c.self.inside.near.items c.self.invariant c.args.a c.args.at c.index.result.now place)
    ∙ near_linked n.declared (numbers n.devices) c.args.a c.args.b n.links c.self.invariant.network.links
    ∙ ap (λ (v : Network). are_linked v c.args.a c.args.b) c.self.view_is
