use Rattle.std.proofs.Common.{suc, ◌<◌, ◌≤◌, ◌+◌, length, sym, ◌∙◌, ap, subst, map, get_or, arith}
use Rattle.std.specs.declared.alloc.Global.{Global}
use Rattle.std.specs.declared.vec.Vec.{Vec}
use Rattle.std.proofs.lemmas.List.{length-map, length_push}
use Rattle.envelopes.specs.Code.{maybe_device_of}
use Rattle.bound_rounds.proofs.Places.{number_at, device_sure}
use Rattle.value_bounds.specs.References.{local_bound_in, local_bounds_in}
use Rattle.last_bounds.specs.declared.changes.Change.{Change}
use Rattle.last_bounds.specs.References.{IsMade, AreMade, change_in}
use Rattle.last_bounds.proofs.Making.{made_at, made_more}
use Rattle.last_bounds.proofs.lasts.bounds_at_end.Goals as goal

pub loop-place-preserved : goal.loop-place-preserved
loop-place-preserved c =
    let E = c.args.envelope.now in
    let ds = c.devices.result.now in
    let k = c.loop-place.place in
    let inv = c.loop-place.invariant in
    let x = c.index-devices-place.result in
    let counted = c.devices-count.result.now in
    let within : k < length E.devices =
    omega (arith, c.loop-place-test.true, length-map counted maybe_device_of, ap length c.devices-count.ensures.value) in
    let is = c.index-devices-place.is in
    let at = number_at E ds k x c.devices.ensures.value within is in
    let sure = device_sure E ds k x c.devices.ensures.value c.devices.ensures.envelope within is in
    let s = c.index-before-place.result in
    let b = c.index-bounds-place.result in
    let v = c.index-changes-place.result in
    let l = c.in_ok-last_bound.field-0 in
    let one : IsMade x.id x.sure (local_bound_in s) (local_bound_in (get_or c.args.bounds.now k b).value)
    (map change_in c.deref.result.now) c.args.rounds l = c.in_ok-last_bound.ensures in
    let here = made_at E c.args.before.now c.args.bounds.now c.args.changes.now c.args.rounds k x.id x.sure s b v l at
    sure c.index-before-place.is (omega (arith, within, c.requires.before)) (omega (arith, within, c.requires.bounds))
    (omega (arith, within, c.requires.changes)) (subst (λ cs. IsMade x.id x.sure (local_bound_in s)
    (local_bound_in (get_or c.args.bounds.now k b).value) (map change_in cs) c.args.rounds l) (c.deref.ensures.value
    ∙ ap (λ (w : Vec Change Global). w.items) c.index-changes-place.is) one) in
    record {
      many = ap length c.in_ok-push.ensures.items ∙ length_push c.loop-place.lasts.items c.in_ok-last_bound.field-0
          ∙ ap (λ n. n + 1) inv.many;
      made = λ i a b v l h. subst (AreMade E (local_bounds_in c.args.before.now) c.args.bounds.now c.args.changes.now
          c.args.rounds (suc k)) (sym c.in_ok-push.ensures.items) (made_more E c.args.before.now c.args.bounds.now
          c.args.changes.now c.args.rounds k c.loop-place.lasts.items c.in_ok-last_bound.field-0 inv.many inv.made here)
          i a b v l (omega (arith, h));
    }

pub returns-clause-made : goal.returns-clause-made
returns-clause-made c i a b v l h =
    let E = c.args.envelope.now in
    let ds = c.devices-count.result.now in
    let last : length ds ≤ c.loop-place.place = c.loop-place-test.false in
    c.loop-place.invariant.made i a b v l
    (omega (arith, h, last, length-map ds maybe_device_of, ap length c.devices-count.ensures.value))
