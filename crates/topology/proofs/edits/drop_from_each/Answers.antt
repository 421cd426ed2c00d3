use Rattle.std.proofs.Common.{◌∙◌, sym, ap, arith, map, set, ℕ}
use Rattle.arrayvec.specs.ArrayVec.{ArrayVec}
use Rattle.std.proofs.lemmas.List.{map-set, length-map, get_or-map}
use Rattle.std.proofs.lemmas.List.Edits.{map_over_more}
use Rattle.topology.specs.Nearby.{drop_near, items_of}
use Rattle.topology.proofs.edits.drop_from_each.Goals as goal

pub loop-one-preserved : goal.loop-one-preserved
loop-one-preserved c =
    map-set items_of c.loop-one.one-items c.loop-one.one-index c.drop_near.new.near
    ∙ ap (set (map items_of c.loop-one.one-items) c.loop-one.one-index) (c.drop_near.ensures ∙ ap (λ (v : ArrayVec (ℕ × ℕ)). drop_near c.args.device v.items) (sym c.one-item.is))
    ∙ map_over_more (λ ns. drop_near c.args.device ns) (map items_of c.deref_mut-one-items.result.now) (map items_of c.loop-one.one-items) c.loop-one.one-index c.one-item.result.items
    (omega (arith, length-map c.deref_mut-one-items.result.now items_of, c.loop-one-test.true)) c.loop-one.invariant
    (ap items_of c.one-item.is ∙ sym (get_or-map items_of c.loop-one.one-items c.loop-one.one-index c.one-item.result c.one-item.result.items (omega arith)))
