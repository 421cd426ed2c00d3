use Rattle.std.proofs.Common.{◌∙◌, ap, arith, map, refl}
use Rattle.value_bounds.specs.BoundValues.{anything}
use Rattle.bound_firing.proofs.RootAt.{one_more_kept, all_kept}
use Rattle.bound_firing.proofs.firing.any_slots.Goals as goal

pub loop-place-preserved : goal.loop-place-preserved
loop-place-preserved c =
    one_more_kept (anything c.args.ceiling) c.args.program.now.nodes c.loop-place.place _ refl _ _ _
    c.node.ensures.node c.loop-place.invariant c.in_ok-add_any.ensures

pub returns : goal.returns
returns c =
    let f = c.loop-place-test.false in
    let a = c.loop-place.auto.place-end in
    let s = c.size-size.ensures.value in
    c.loop-place.invariant ∙ ap (map (anything c.args.ceiling))
    (all_kept c.args.program.now c.size-size.ensures.program c.loop-place.place (omega (arith, f, a, s)))
