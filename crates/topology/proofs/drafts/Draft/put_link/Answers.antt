use Rattle.std.proofs.Common.{◌≡◌, ◌∙◌, sym, ap, subst, length, None, arith, ◌<◌}
use Rattle.topology.specs.Networks.{near}
use Rattle.topology.specs.Changes.{link_fault, linked}
use Rattle.topology.specs.Nearby.{items_of, drop_near, insert_near, AtEnds}
use Rattle.topology.proofs.Changed.{can_link}
use Rattle.topology.proofs.Drawing.{drawn_is, drawn_kept}
use Rattle.topology.proofs.Kept.{list_within, list_at, list_other, near_room, put_kept}
use Rattle.topology.specs.contracts.drafts.Draft.{the_view}
use Rattle.topology.proofs.drafts.Draft.put_link.Goals as goal

pub index_mut-requires : goal.index_mut-requires
index_mut-requires c =
    let ends : AtEnds (the_view c.self.inside) c.args.a c.args.b c.args.at = subst (λ v. AtEnds v c.args.a c.args.b c.args.at) (sym c.self.view_is) c.requires.places in
    let w = list_within (the_view c.self.inside) c.self.inside.near.items c.self.invariant c.args.a c.args.at.0 ends.first in
    omega (arith, c.self.inside.near.ok.0)

pub index_mut-requires-2 : goal.index_mut-requires-2
index_mut-requires-2 c =
    let ends : AtEnds (the_view c.self.inside) c.args.a c.args.b c.args.at = subst (λ v. AtEnds v c.args.a c.args.b c.args.at) (sym c.self.view_is) c.requires.places in
    let w = list_within (the_view c.self.inside) c.self.inside.near.items c.self.invariant c.args.b c.args.at.1 ends.second in
    omega (arith, c.self.inside.near.ok.0)

pub put_near-requires : goal.put_near-requires
put_near-requires c =
    let ends : AtEnds (the_view c.self.inside) c.args.a c.args.b c.args.at = subst (λ v. AtEnds v c.args.a c.args.b c.args.at) (sym c.self.view_is) c.requires.places in
    let none : link_fault (the_view c.self.inside) c.args.a c.args.b c.args.weight ≡ None = subst (λ v. link_fault v c.args.a c.args.b c.args.weight ≡ None) (sym c.self.view_is) c.requires.fault in
    let first : c.index_mut.result.now.items ≡ near (the_view c.self.inside) c.args.a = ap items_of c.index_mut.ensures.value ∙ list_at (the_view c.self.inside) c.self.inside.near.items c.self.invariant c.args.a c.args.at.0 c.index_mut.result.now ends.first in
    subst (λ ns. length (drop_near c.args.b ns) < 32) (sym first) (near_room (the_view c.self.inside) c.self.inside.near.items c.self.invariant c.args.a c.args.b c.args.weight none).0

pub put_near-requires-2 : goal.put_near-requires-2
put_near-requires-2 c =
    let ends : AtEnds (the_view c.self.inside) c.args.a c.args.b c.args.at = subst (λ v. AtEnds v c.args.a c.args.b c.args.at) (sym c.self.view_is) c.requires.places in
    let none : link_fault (the_view c.self.inside) c.args.a c.args.b c.args.weight ≡ None = subst (λ v. link_fault v c.args.a c.args.b c.args.weight ≡ None) (sym c.self.view_is) c.requires.fault in
    let apart = (can_link (the_view c.self.inside) c.args.a c.args.b c.args.weight none).apart in
    let second : c.index_mut-2.result.now.items ≡ near (the_view c.self.inside) c.args.b = ap items_of c.index_mut-2.ensures.value ∙ list_other (the_view c.self.inside) c.self.inside.near.items c.self.invariant c.args.a c.args.b c.args.at c.put_near.new.near c.index_mut-2.result.now ends apart in
    subst (λ ns. length (drop_near c.args.a ns) < 32) (sym second) (near_room (the_view c.self.inside) c.self.inside.near.items c.self.invariant c.args.a c.args.b c.args.weight none).1

pub invariant_of-self : goal.invariant_of-self
invariant_of-self c =
    let ends : AtEnds (the_view c.self.inside) c.args.a c.args.b c.args.at = subst (λ v. AtEnds v c.args.a c.args.b c.args.at) (sym c.self.view_is) c.requires.places in
    let none : link_fault (the_view c.self.inside) c.args.a c.args.b c.args.weight ≡ None = subst (λ v. link_fault v c.args.a c.args.b c.args.weight ≡ None) (sym c.self.view_is) c.requires.fault in
    let apart = (can_link (the_view c.self.inside) c.args.a c.args.b c.args.weight none).apart in
    let first : c.index_mut.result.now.items ≡ near (the_view c.self.inside) c.args.a = ap items_of c.index_mut.ensures.value ∙ list_at (the_view c.self.inside) c.self.inside.near.items c.self.invariant c.args.a c.args.at.0 c.index_mut.result.now ends.first in
    let second : c.index_mut-2.result.now.items ≡ near (the_view c.self.inside) c.args.b = ap items_of c.index_mut-2.ensures.value ∙ list_other (the_view c.self.inside) c.self.inside.near.items c.self.invariant c.args.a c.args.b c.args.at c.put_near.new.near c.index_mut-2.result.now ends apart in
    let kept = put_kept (the_view c.self.inside) c.self.inside.near.items c.self.invariant c.args.a c.args.b c.args.weight c.args.at c.put_near.new.near c.put_near-2.new.near ends none
    (c.put_near.ensures ∙ ap (λ ns. insert_near c.args.b c.args.weight (drop_near c.args.b ns)) first)
    (c.put_near-2.ensures ∙ ap (λ ns. insert_near c.args.a c.args.weight (drop_near c.args.a ns)) second) in
    drawn_kept (linked (the_view c.self.inside) c.args.a c.args.b c.args.weight) _ kept

pub returns : goal.returns
returns c =
    let ends : AtEnds (the_view c.self.inside) c.args.a c.args.b c.args.at = subst (λ v. AtEnds v c.args.a c.args.b c.args.at) (sym c.self.view_is) c.requires.places in
    let none : link_fault (the_view c.self.inside) c.args.a c.args.b c.args.weight ≡ None = subst (λ v. link_fault v c.args.a c.args.b c.args.weight ≡ None) (sym c.self.view_is) c.requires.fault in
    let apart = (can_link (the_view c.self.inside) c.args.a c.args.b c.args.weight none).apart in
    let first : c.index_mut.result.now.items ≡ near (the_view c.self.inside) c.args.a = ap items_of c.index_mut.ensures.value ∙ list_at (the_view c.self.inside) c.self.inside.near.items c.self.invariant c.args.a c.args.at.0 c.index_mut.result.now ends.first in
    let second : c.index_mut-2.result.now.items ≡ near (the_view c.self.inside) c.args.b = ap items_of c.index_mut-2.ensures.value ∙ list_other (the_view c.self.inside) c.self.inside.near.items c.self.invariant c.args.a c.args.b c.args.at c.put_near.new.near c.index_mut-2.result.now ends apart in
    let kept = put_kept (the_view c.self.inside) c.self.inside.near.items c.self.invariant c.args.a c.args.b c.args.weight c.args.at c.put_near.new.near c.put_near-2.new.near ends none
    (c.put_near.ensures ∙ ap (λ ns. insert_near c.args.b c.args.weight (drop_near c.args.b ns)) first)
    (c.put_near-2.ensures ∙ ap (λ ns. insert_near c.args.a c.args.weight (drop_near c.args.a ns)) second) in
    drawn_is (linked (the_view c.self.inside) c.args.a c.args.b c.args.weight) _ kept ∙ ap (λ v. linked v c.args.a c.args.b c.args.weight) c.self.view_is
