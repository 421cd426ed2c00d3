use Rattle.std.proofs.Common.{ℕ, ◌≡◌, ◌∙◌, [], sym, ap, subst, true, false, Option, Some, None, IfSome, IfNone, is_some}
use Rattle.fc_nodes.specs.Program.{Program, unfolding_of}
use Rattle.topology.specs.Networks.{Network, lives}
use Rattle.firing_core.specs.CoreViews.{core_of, program_of}
use Rattle.value_bounds.specs.References.{local_bounds_in}
use Rattle.bound_firing.specs.Exports.{bound_export}
use Rattle.bound_firing.specs.Firing.{bound_of}
use Rattle.bound_firing.specs.ExportReferences.{export_bound_in, situation_for}
use Rattle.envelopes.specs.Envelopes.{surely_lives}
use Rattle.bound_rounds.specs.Tables.{device_at}
use Rattle.bound_rounds.proofs.Places.{number_at, device_inputs, device_sure}
use Rattle.settle_rounds.specs.References.{SameButFlight}
use Rattle.settle_rounds.specs.Within.{FirstWithin, no_seats}
use Rattle.settle_rounds.proofs.States.{alone_is, first_of_none}
use Rattle.settle_rounds.proofs.starts.first_bound.Goals as goal

some_is : (o : Option ℕ) (P : Type 0) → IfSome o (λ i. P) → is_some o ≡ true → P
some_is (Some i) P h e = h
some_is None P h e = absurd cc

none_is : (o : Option ℕ) (P : Type 0) → IfNone o P → is_some o ≡ false → P
none_is None P h e = h
none_is (Some i) P h e = absurd cc

pub standing_bound-requires : goal.standing_bound-requires
standing_bound-requires c =
    let id = c.index-devices-place.result.id in
    subst (λ (n : Network). lives n id ≡ true) c.net.ensures.value
    (some_is c.place.result (lives c.net.result.now id ≡ true) c.place.ensures.lives
    (sym c.is_some.ensures ∙ c.if-is_some.true))

pub returns-then-is_some-clause-bound : goal.returns-then-is_some-clause-bound
returns-then-is_some-clause-bound c =
    let E = c.args.envelope.now in
    let old = c.args.core.now in
    let ds = c.devices.result.now in
    let x = c.index-devices-place.result in
    let all = c.devices.ensures.value in
    let is = c.index-devices-place.is in
    let at = number_at E ds c.args.place x all c.requires is in
    let sure = device_sure E ds c.args.place x all c.devices.ensures.envelope c.requires is in
    let b = export_bound_in (program_of old) c.in_ok-bound.bound in
    subst (λ d. FirstWithin (program_of old) E old.net (core_of old) d b) (sym at)
    (c.in_ok-bound.ensures.bound E (ap (surely_lives E) (sym at) ∙ sym sure))

pub returns-then-is_some-clause-same : goal.returns-then-is_some-clause-same
returns-then-is_some-clause-same c =
    let at = number_at c.args.envelope.now c.devices.result.now c.args.place c.index-devices-place.result
    c.devices.ensures.value c.requires c.index-devices-place.is in
    subst (λ d. SameButFlight c.args.core.now d c.standing_bound.new.core) (sym at) c.in_ok-bound.ensures.same

pub returns-in_err-bound-clause-same : goal.returns-in_err-bound-clause-same
returns-in_err-bound-clause-same c =
    let at = number_at c.args.envelope.now c.devices.result.now c.args.place c.index-devices-place.result
    c.devices.ensures.value c.requires c.index-devices-place.is in
    subst (λ d. SameButFlight c.args.core.now d c.standing_bound.new.core) (sym at) c.in_err-bound.ensures.same

pub returns-clause-bound : goal.returns-clause-bound
returns-clause-bound c =
    let E = c.args.envelope.now in
    let old = c.args.core.now in
    let ds = c.devices.result.now in
    let k = c.args.place in
    let x = c.index-devices-place.result in
    let all = c.devices.ensures.value in
    let is = c.index-devices-place.is in
    let at = number_at E ds k x all c.requires is in
    let inputs = device_inputs E ds k x all c.devices.ensures.envelope c.requires is in
    let read : c.deref.result.now ≡ old.program = c.deref.ensures ∙ c.program.ensures.value in
    let b = c.in_ok-bound-2.bound in
    let made = subst (λ (P : Program). export_bound_in (unfolding_of P) b ≡ bound_export false (bound_of
    (situation_for P.declared x.id (local_bounds_in x.inputs.items)) 0 (unfolding_of P).main [] no_seats)) read
    c.in_ok-bound-2.ensures.bound in
    let gone : lives old.net (device_at E k) ≡ false = subst (λ d. lives old.net d ≡ false) (sym at)
    (subst (λ (n : Network). lives n x.id ≡ false) c.net.ensures.value
    (none_is c.place.result (lives c.net.result.now x.id ≡ false) c.place.ensures.none
    (sym c.is_some.ensures ∙ c.if-is_some.false))) in
    subst (FirstWithin (program_of old) E old.net (core_of old) (device_at E k))
    (sym (made ∙ alone_is (program_of old) E (device_at E k) x.id (local_bounds_in x.inputs.items) (sym at) inputs))
    (first_of_none (program_of old) E (core_of old) (device_at E k) c.net.ensures.good gone)
