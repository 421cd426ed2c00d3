use Rattle.std.proofs.Common.{◌∙◌, sym, subst, ap, arith, length}
use Rattle.std.proofs.lemmas.List.{length-map, with_items_is}
use Rattle.value_bounds.specs.References.{local_bound_in, local_bounds_in}
use Rattle.bound_firing.specs.Walks.{Reach}
use Rattle.bound_firing.specs.References.{flat_seats_in}
use Rattle.bound_firing.proofs.RootAt.{seats_reach, root_ready, root_done}
use Rattle.bound_firing.proofs.firing.fire_bounds.Goals as goal

pub eval-requires : goal.eval-requires
eval-requires c =
    let r = seats_reach _ c.args.seats.now c.args.target.now.slots.items c.requires in
    let l = c.clear.auto.slots in
    let long = length-map c.clear.new.slots local_bound_in ∙ l ∙ ap length c.as_mut_slice-slots.ensures.value
    ∙ c.requires.target in
    root_ready c.args.program.now c.layout.ensures.program c.layout.result.now c.layout.ensures.layout
    (flat_seats_in c.args.seats.now) (local_bounds_in c.clear.new.slots) c.clear.ensures long
    (subst (λ n. Reach n (flat_seats_in c.args.seats.now)) (sym long) r)

pub returns-clause-bound : goal.returns-clause-bound
returns-clause-bound c =
    let l = c.clear.auto.slots in
    let e = c.eval.auto.draft in
    let back = with_items_is c.args.target.now.slots c.eval.new.draft
    (omega (arith, l, e, ap length c.as_mut_slice-slots.ensures.value, c.args.target.now.slots.ok.0)) in
    rw (c.take_local.ensures, back)
    (root_done c.args.program.now c.layout.ensures.program c.layout.result.now c.layout.ensures.layout
    (flat_seats_in c.args.seats.now) (local_bounds_in c.clear.new.slots) c.args.sure _ _ _ c.in_ok-eval.ensures)
