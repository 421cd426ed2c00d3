use Rattle.std.proofs.Common.{◌≡◌, ◌∙◌, sym, subst, arith}
use Rattle.std.specs.Prelude.{option_map, IfSome}
use Rattle.value_trees.specs.Snaps.{snap_copy, IsSnap}
use Rattle.topology.specs.Networks.{numbers}
use Rattle.firing_core.specs.CoreViews.{CoreValue, core_of, program_of}
use Rattle.firing_core.proofs.Slots.{slot_none}
use Rattle.firing_core.proofs.CoreSteps.{flight_at, flight_within, flight_kept}
use Rattle.firing_core.proofs.Borrowed.{no_value, read_value, where_read}
use Rattle.firing_core.specs.contracts.cores.Core.{the_view}
use Rattle.firing_core.proofs.cores.Core.flying.Goals as goal

pub returns-in_err-place-clause-value : goal.returns-in_err-place-clause-value
returns-in_err-place-clause-value c =
    subst (λ (v : CoreValue). option_map (λ s. snap_copy (program_of v) s.now) c.from_residual.result ≡ (core_of v).flying c.args.device) c.self.view_is
    (no_value (snap_copy (program_of (the_view c.self.inside))) c.from_residual.result c.from_residual.ensures ∙ sym (slot_none _ _ c.args.device c.in_err-place.ensures.none))

pub returns-clause-value : goal.returns-clause-value
returns-clause-value c =
    subst (λ (v : CoreValue). option_map (λ s. snap_copy (program_of v) s.now) c.as_ref.result ≡ (core_of v).flying c.args.device) c.self.view_is
    (read_value _ c.as_ref.result _ c.as_ref.ensures.value ∙ sym (flight_at _ c.self.invariant c.in_ok-place.place c.args.device c.in_ok-place.ensures.within c.in_ok-place.ensures.there _ c.index.ensures))

pub index-requires : goal.index-requires
index-requires c = let w = flight_within _ c.self.invariant c.in_ok-place.place c.args.device c.in_ok-place.ensures.within c.in_ok-place.ensures.there in omega (arith, w, c.self.inside.flying.ok.0)

pub returns-clause-snap : goal.returns-clause-snap
returns-clause-snap c =
    let w = flight_within _ c.self.invariant c.in_ok-place.place c.args.device c.in_ok-place.ensures.within c.in_ok-place.ensures.there in
    subst (λ (v : CoreValue). IfSome c.as_ref.result (λ s. IsSnap (program_of v) s.now)) c.self.view_is
    (where_read (IsSnap (program_of (the_view c.self.inside))) c.as_ref.result _ c.as_ref.ensures.value (flight_kept _ (numbers c.self.inside.net.devices) c.self.inside.flying.items c.in_ok-place.place _ c.self.invariant.flying w c.index.ensures))

pub returns-in_err-place-clause-snap : goal.returns-in_err-place-clause-snap
returns-in_err-place-clause-snap c = subst (λ r. IfSome r (λ s. IsSnap (program_of c.args.self.now) s.now)) (sym c.from_residual.ensures) tt
