use Rattle.std.proofs.Common.{◌≡◌, sym, subst, ap, Some, None, is_some, arith}
use Rattle.fc_nodes.specs.Program.{Unfolding, unfolding_of}
use Rattle.value_trees.specs.Snaps.{IsSnap, IsExportOf}
use Rattle.firing_core.specs.Cores.{Ends}
use Rattle.firing_core.specs.Replays.{fault_of}
use Rattle.firing_core.specs.CoreViews.{CoreValue, core_of, program_of}
use Rattle.firing_core.specs.contracts.cores.Core.{the_view}
use Rattle.firing_core.specs.Entries.{EndEntry}
use Rattle.firing_core.specs.declared.entries.StepFault.TheVariants as fault
use Rattle.firing_core.proofs.Borrowed.{none_read, some_read}
use Rattle.firing_core.proofs.CoreSteps.{flight_within, end_resting, flies, flight_ends, flight_fits, ended_kept, with_export}
use Rattle.firing_core.proofs.cores.Core.finish.Goals as goal

pub index-requires : goal.index-requires
index-requires c = let w = flight_within _ c.self.invariant c.in-Some.place c.args.device c.in-Some.ensures.within c.in-Some.ensures.there in omega (arith, w, c.self.inside.flying.ok.0)

pub index_mut-requires-2 : goal.index_mut-requires-2
index_mut-requires-2 c = let w = flight_within _ c.self.invariant c.in-Some.place c.args.device c.in-Some.ensures.within c.in-Some.ensures.there in omega (arith, w, c.self.inside.flying.ok.0)

pub publish-requires : goal.publish-requires
publish-requires c =
    subst (λ (U : Unfolding). IsSnap U c.in-Some-as_ref.flight.now) (sym (ap unfolding_of c.deref.ensures))
    (flight_fits _ c.self.invariant c.in-Some.place c.args.device c.in-Some.ensures.within c.in-Some.ensures.there c.index.result.now c.in-Some-as_ref.flight.now c.index.ensures
    (some_read c.as_ref.result c.in-Some-as_ref.flight c.index.result.now c.as_ref.ensures.value c.in-Some-as_ref.is))

pub returns-in_default-as_ref-clause-refused : goal.returns-in_default-as_ref-clause-refused
returns-in_default-as_ref-clause-refused c =
    subst (λ (v : CoreValue). fault_of (core_of v) (EndEntry c.args.device) ≡ Some fault.NotFlying) c.self.view_is
    (end_resting _ c.self.invariant c.in-Some.place c.args.device c.in-Some.ensures.within c.in-Some.ensures.there c.index.result.now c.index.ensures c.in-Some.ensures.lives
    (none_read c.as_ref.result c.index.result.now c.as_ref.ensures.value c.in_default-as_ref.is))

pub returns-clause-accepted : goal.returns-clause-accepted
returns-clause-accepted c =
    subst (λ (v : CoreValue). fault_of (core_of v) (EndEntry c.args.device) ≡ None) c.self.view_is
    (flies _ c.self.invariant c.in-Some.place c.args.device c.in-Some.ensures.within c.in-Some.ensures.there c.index.result.now c.index.ensures c.in-Some.ensures.lives
    (ap is_some (some_read c.as_ref.result c.in-Some-as_ref.flight c.index.result.now c.as_ref.ensures.value c.in-Some-as_ref.is))).fault

pub invariant_of-self-2 : goal.invariant_of-self-2
invariant_of-self-2 c =
    ended_kept _ c.self.invariant c.in-Some.place c.args.device c.in-Some.ensures.within c.in-Some.ensures.there c.in-Ok.export
    (subst (λ (U : Unfolding). IsExportOf U c.in-Ok.export) (ap unfolding_of c.deref.ensures) c.in-Ok.ensures.export)

pub returns-clause-ok : goal.returns-clause-ok
returns-clause-ok c =
    let new : CoreValue = with_export (the_view c.self.inside) c.self.invariant c.in-Some.place c.args.device c.in-Some.ensures.within c.in-Some.ensures.there c.in-Ok.export in
    subst (λ (v : CoreValue). Ends (program_of v) (core_of v) c.args.device (core_of new)) c.self.view_is
    (flight_ends (the_view c.self.inside) c.self.invariant c.in-Some.place c.args.device c.in-Some.ensures.within c.in-Some.ensures.there c.index.result.now c.in-Some-as_ref.flight.now c.in-Ok.export c.deref.result.now c.index.ensures
    (some_read c.as_ref.result c.in-Some-as_ref.flight c.index.result.now c.as_ref.ensures.value c.in-Some-as_ref.is) c.in-Some.ensures.lives c.deref.ensures c.in-Ok.ensures)
