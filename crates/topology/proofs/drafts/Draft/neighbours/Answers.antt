use Rattle.std.proofs.Common.{◌≡◌, ◌∙◌, sym, ap, subst, ℕ, false}
use Rattle.arrayvec.specs.ArrayVec.{ArrayVec}
use Rattle.fc_values.specs.Fields.{Rises}
use Rattle.topology.specs.Networks.{Network, numbers, lives, near}
use Rattle.topology.specs.Nearby.{AtPlace, neighbour_numbers}
use Rattle.topology.proofs.Neighbours.{near_none, near_rises}
use Rattle.topology.proofs.Kept.{list_at}
use Rattle.topology.specs.contracts.drafts.Draft.{the_view}
use Rattle.topology.proofs.drafts.Draft.neighbours.Goals as goal

pub returns-in-Some-clause-value : goal.returns-in-Some-clause-value
returns-in-Some-clause-value c =
    let place : AtPlace (the_view c.self.inside) c.args.device c.in-Some.at =
    subst (λ v. AtPlace v c.args.device c.in-Some.at) (sym c.self.view_is) (record { within = c.in-Some.ensures.within; is = c.in-Some.ensures.there }) in
    c.as_slice.ensures.value
    ∙ ap (λ (v : ArrayVec (ℕ × ℕ)). v.items) c.index.ensures
    ∙ list_at (the_view c.self.inside) c.self.inside.near.items c.self.invariant c.args.device c.in-Some.at c.index.result.now place
    ∙ ap (λ (v : Network). near v c.args.device) c.self.view_is

pub returns-in-Some-clause-rising : goal.returns-in-Some-clause-rising
returns-in-Some-clause-rising c =
    let n = the_view c.self.inside in
    let place : AtPlace (the_view c.self.inside) c.args.device c.in-Some.at =
    subst (λ v. AtPlace v c.args.device c.in-Some.at) (sym c.self.view_is) (record { within = c.in-Some.ensures.within; is = c.in-Some.ensures.there }) in
    subst (λ ns. Rises (neighbour_numbers ns))
    (sym (c.as_slice.ensures.value ∙ ap (λ (v : ArrayVec (ℕ × ℕ)). v.items) c.index.ensures ∙ list_at (the_view c.self.inside) c.self.inside.near.items c.self.invariant c.args.device c.in-Some.at c.index.result.now place))
    (near_rises n.declared (numbers n.devices) c.args.device n.links c.self.invariant.network.links)

pub returns-in-None-clause-value : goal.returns-in-None-clause-value
returns-in-None-clause-value c =
    let n = the_view c.self.inside in
    let gone : lives (the_view c.self.inside) c.args.device ≡ false = subst (λ v. lives v c.args.device ≡ false) (sym c.self.view_is) c.in-None.ensures.none in
    sym (near_none n.declared (numbers n.devices) c.args.device n.links c.self.invariant.network.links gone)
    ∙ ap (λ (v : Network). near v c.args.device) c.self.view_is
