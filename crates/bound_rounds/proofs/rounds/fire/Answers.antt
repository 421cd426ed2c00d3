use Rattle.std.proofs.Common.{◌∙◌, sym, ap}
use Rattle.value_bounds.specs.References.{local_bounds_in}
use Rattle.fc_nodes.specs.Terms.{kept}
use Rattle.fc_nodes.specs.Program.{unfolding_of}
use Rattle.bound_rounds.specs.Tables.{device_at}
use Rattle.bound_rounds.proofs.Places.{number_at, device_inputs, device_sure}
use Rattle.bound_rounds.proofs.Standing.{fired_over}
use Rattle.bound_rounds.proofs.rounds.fire.Goals as goal

pub fire_bounds-requires : goal.fire_bounds-requires
fire_bounds-requires c = let n = kept (unfolding_of c.args.program.now).main in record {
  own = c.in_ok-seats.ensures.own n c.requires.bounds.slots;
  near = c.in_ok-seats.ensures.near n c.requires.bounds.slots;
  target = c.requires.draft;
}

pub returns-clause-fired : goal.returns-clause-fired
returns-clause-fired c table s =
    let E = c.args.envelope.now in
    let ds = c.devices.result.now in
    let k = c.args.place in
    let x = c.index-devices-place.result in
    let all = c.devices.ensures.value in
    let h = c.requires.within in
    let is = c.index-devices-place.is in
    let at = number_at E ds k x all h is in
    let inputs = device_inputs E ds k x all c.devices.ensures.envelope h is in
    let sure = device_sure E ds k x all c.devices.ensures.envelope h is in
    c.in_ok-fire_bounds.ensures.bound
    ∙ fired_over (unfolding_of c.args.program.now) E table c.args.bounds.now (device_at E k) x.id
    (local_bounds_in c.deref.result.now) x.sure c.in_ok-seats.seats (sym at)
    (ap local_bounds_in c.deref.ensures.value ∙ inputs) sure s c.in_ok-seats.ensures
