use Rattle.std.proofs.Common.{◌∙◌, sym, ap, subst, ℕ, length, nat_le}
use Rattle.arrayvec.specs.ArrayVec.{ArrayVec}
use Rattle.topology.specs.Networks.{Network}
use Rattle.topology.specs.Changes.{is_full}
use Rattle.topology.specs.Nearby.{AtPlace}
use Rattle.topology.proofs.Kept.{list_at}
use Rattle.topology.specs.contracts.drafts.Draft.{the_view}
use Rattle.topology.proofs.drafts.Draft.is_full.Goals as goal

pub returns : goal.returns
returns c =
    let place : AtPlace (the_view c.self.inside) c.args.device c.args.at = subst (λ v. AtPlace v c.args.device c.args.at) (sym c.self.view_is) c.requires in
    ap (nat_le 32) (c.len.ensures.value
    ∙ ap (λ (v : ArrayVec (ℕ × ℕ)). length v.items) c.index.ensures
    ∙ ap length (list_at (the_view c.self.inside) c.self.inside.near.items c.self.invariant c.args.device c.args.at c.index.result.now place))
    ∙ ap (λ (v : Network). is_full v c.args.device) c.self.view_is
