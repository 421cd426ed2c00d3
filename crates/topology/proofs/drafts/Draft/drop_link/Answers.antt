use Rattle.std.proofs.Common.{◌≡◌, ◌∙◌, sym, ap, subst, ℕ, None}
use Rattle.arrayvec.specs.ArrayVec.{ArrayVec}
use Rattle.topology.specs.Changes.{unlink_fault, unlinked}
use Rattle.topology.specs.Nearby.{drop_near, AtEnds}
use Rattle.topology.proofs.Changed.{can_unlink}
use Rattle.topology.proofs.Drawing.{drawn_is, drawn_kept}
use Rattle.topology.proofs.Kept.{list_at, list_other, drop_kept}
use Rattle.topology.specs.contracts.drafts.Draft.{the_view}
use Rattle.topology.proofs.drafts.Draft.drop_link.Goals as goal

pub invariant_of-self : goal.invariant_of-self
invariant_of-self c =
    let ends : AtEnds (the_view c.self.inside) c.args.a c.args.b c.args.at = subst (λ v. AtEnds v c.args.a c.args.b c.args.at) (sym c.self.view_is) c.requires.places in
    let none : unlink_fault (the_view c.self.inside) c.args.a c.args.b ≡ None = subst (λ v. unlink_fault v c.args.a c.args.b ≡ None) (sym c.self.view_is) c.requires.fault in
    let apart = (can_unlink (the_view c.self.inside) c.args.a c.args.b c.self.invariant.network none).apart in
    let kept = drop_kept (the_view c.self.inside) c.self.inside.near.items c.self.invariant c.args.a c.args.b c.args.at c.drop_near.new.near c.drop_near-2.new.near ends apart
    (c.drop_near.ensures ∙ ap (λ (v : ArrayVec (ℕ × ℕ)). drop_near c.args.b v.items) c.index_mut.ensures.value
    ∙ ap (drop_near c.args.b) (list_at (the_view c.self.inside) c.self.inside.near.items c.self.invariant c.args.a c.args.at.0 c.index_mut.result.now ends.first))
    (c.drop_near-2.ensures ∙ ap (λ (v : ArrayVec (ℕ × ℕ)). drop_near c.args.a v.items) c.index_mut-2.ensures.value
    ∙ ap (drop_near c.args.a) (list_other (the_view c.self.inside) c.self.inside.near.items c.self.invariant c.args.a c.args.b c.args.at c.drop_near.new.near c.index_mut-2.result.now ends apart)) in
    drawn_kept (unlinked (the_view c.self.inside) c.args.a c.args.b) _ kept

pub returns : goal.returns
returns c =
    let ends : AtEnds (the_view c.self.inside) c.args.a c.args.b c.args.at = subst (λ v. AtEnds v c.args.a c.args.b c.args.at) (sym c.self.view_is) c.requires.places in
    let none : unlink_fault (the_view c.self.inside) c.args.a c.args.b ≡ None = subst (λ v. unlink_fault v c.args.a c.args.b ≡ None) (sym c.self.view_is) c.requires.fault in
    let apart = (can_unlink (the_view c.self.inside) c.args.a c.args.b c.self.invariant.network none).apart in
    let kept = drop_kept (the_view c.self.inside) c.self.inside.near.items c.self.invariant c.args.a c.args.b c.args.at c.drop_near.new.near c.drop_near-2.new.near ends apart
    (c.drop_near.ensures ∙ ap (λ (v : ArrayVec (ℕ × ℕ)). drop_near c.args.b v.items) c.index_mut.ensures.value
    ∙ ap (drop_near c.args.b) (list_at (the_view c.self.inside) c.self.inside.near.items c.self.invariant c.args.a c.args.at.0 c.index_mut.result.now ends.first))
    (c.drop_near-2.ensures ∙ ap (λ (v : ArrayVec (ℕ × ℕ)). drop_near c.args.a v.items) c.index_mut-2.ensures.value
    ∙ ap (drop_near c.args.a) (list_other (the_view c.self.inside) c.self.inside.near.items c.self.invariant c.args.a c.args.b c.args.at c.drop_near.new.near c.index_mut-2.result.now ends apart)) in
    drawn_is (unlinked (the_view c.self.inside) c.args.a c.args.b) _ kept ∙ ap (λ v. unlinked v c.args.a c.args.b) c.self.view_is
