use Rattle.std.proofs.Common.{◌≡◌, sym, subst, ap, Some, None, arith}
use Rattle.std.specs.Prelude.{slice_set}
use Rattle.fc_values.specs.Trees.{Copy}
use Rattle.value_trees.specs.Snaps.{snap_copy, IsSnap}
use Rattle.topology.specs.Networks.{Lives}
use Rattle.firing_core.specs.Cores.{begun, copy_of}
use Rattle.firing_core.specs.Replays.{fault_of}
use Rattle.firing_core.specs.CoreViews.{CoreValue, core_of, program_of}
use Rattle.firing_core.specs.Entries.{BeginEntry}
use Rattle.firing_core.specs.declared.entries.StepFault.TheVariants as fault
use Rattle.firing_core.proofs.CoreSteps.{flight_within, begin_flying, begin_free, not_flying, begun_core, begun_kept}
use Rattle.firing_core.proofs.cores.Core.begin.Goals as goal

pub index-requires : goal.index-requires
index-requires c = let w = flight_within _ c.self.invariant c.in-Some.place c.args.device c.in-Some.ensures.within c.in-Some.ensures.there in omega (arith, w, c.self.inside.flying.ok.0)

pub index_mut-requires : goal.index_mut-requires
index_mut-requires c = let w = flight_within _ c.self.invariant c.in-Some.place c.args.device c.in-Some.ensures.within c.in-Some.ensures.there in omega (arith, w, c.self.inside.flying.ok.0)

pub returns-then-is_some-clause-flying : goal.returns-then-is_some-clause-flying
returns-then-is_some-clause-flying c =
    let why : fault_of (core_of c.args.self.now) (BeginEntry c.args.device) ≡ Some fault.Flying =
    subst (λ (v : CoreValue). fault_of (core_of v) (BeginEntry c.args.device) ≡ Some fault.Flying) c.self.view_is
    (begin_flying _ c.self.invariant c.in-Some.place c.args.device c.in-Some.ensures.within c.in-Some.ensures.there _ c.index.ensures c.in-Some.ensures.lives (sym c.if-is_some.ensures)) in
    (λ e. why, λ e. cc)

pub returns-in_default-neighbourhood-clause-flying : goal.returns-in_default-neighbourhood-clause-flying
returns-in_default-neighbourhood-clause-flying c =
    let why : fault_of (core_of c.args.self.now) (BeginEntry c.args.device) ≡ None =
    subst (λ (v : CoreValue). fault_of (core_of v) (BeginEntry c.args.device) ≡ None) c.self.view_is
    (begin_free _ c.self.invariant c.in-Some.place c.args.device c.in-Some.ensures.within c.in-Some.ensures.there _ c.index.ensures c.in-Some.ensures.lives (sym c.if-is_some.ensures)) in
    (λ e. absurd cc, λ e. absurd cc)

pub returns-clause-flying : goal.returns-clause-flying
returns-clause-flying c =
    let why : fault_of (core_of c.args.self.now) (BeginEntry c.args.device) ≡ None =
    subst (λ (v : CoreValue). fault_of (core_of v) (BeginEntry c.args.device) ≡ None) c.self.view_is
    (begin_free _ c.self.invariant c.in-Some.place c.args.device c.in-Some.ensures.within c.in-Some.ensures.there _ c.index.ensures c.in-Some.ensures.lives (sym c.if-is_some.ensures)) in
    (λ e. absurd cc, λ e. absurd cc)

pub invariant_of-self : goal.invariant_of-self
invariant_of-self c =
    begun_kept _ c.self.invariant c.in-Some.place c.args.device c.in-Some.ensures.within c.in-Some.ensures.there c.in-Ok.snap
    (ap (λ (x : Copy). x.device) c.in-Ok.ensures.copy)
    (subst (λ (v : CoreValue). IsSnap (program_of v) c.in-Ok.snap) (sym c.self.view_is) c.in-Ok.ensures.snap)

pub returns-clause-ok : goal.returns-clause-ok
returns-clause-ok c =
    let new : CoreValue = record { program = c.self.inside.program.value; net = c.self.inside.net; exports = c.self.inside.exports.items; flying = slice_set c.self.inside.flying.items c.in-Some.place (Some c.in-Ok.snap) } in
    subst (λ (v : CoreValue). Lives v.net c.args.device × ((core_of v).flying c.args.device ≡ None) × (core_of new ≡ begun (core_of v).exports (core_of v) c.args.device)) c.self.view_is (
      c.in-Some.ensures.lives,
      not_flying _ c.self.invariant c.in-Some.place c.args.device c.in-Some.ensures.within c.in-Some.ensures.there _ c.index.ensures (sym c.if-is_some.ensures),
      begun_core _ c.self.invariant c.in-Some.place c.args.device c.in-Some.ensures.within c.in-Some.ensures.there c.in-Ok.snap
          (subst (λ (v : CoreValue). snap_copy (program_of v) c.in-Ok.snap ≡ copy_of v.net (core_of v).exports c.args.device) (sym c.self.view_is) c.in-Ok.ensures.copy),
    )
