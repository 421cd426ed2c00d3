use Rattle.std.proofs.Common.{◌≡◌, ◌∙◌, refl, sym, subst, ap, get_or, Some, None, is_some, Bool, true, false, arith}
use Rattle.std.specs.Prelude.{slice_set}
use Rattle.fc_values.specs.Trees.{Copy}
use Rattle.fc_nodes.specs.Program.{Program, unfolding_of}
use Rattle.value_trees.specs.declared.copies.Snap.{Snap}
use Rattle.value_trees.specs.Snaps.{tree_of, snap_copy, IsSnap}
use Rattle.topology.specs.Networks.{numbers}
use Rattle.firing_core.specs.Cores.{put, Ends}
use Rattle.firing_core.specs.Replays.{fault_of}
use Rattle.firing_core.specs.CoreViews.{CoreValue, core_of, program_of, IsCore}
use Rattle.firing_core.specs.contracts.cores.Core.{the_view}
use Rattle.firing_core.specs.Entries.{EndEntry}
use Rattle.firing_core.specs.declared.entries.StepFault.TheVariants as fault
use Rattle.firing_core.proofs.CoreSteps.{flight_within, flight_kept, same_at, end_resting, flies, lives_at, fired_export, ends_with, ended_kept, published, with_export}
use Rattle.firing_core.proofs.CoreEdits.{core_parts, rebuilt_core}
use Rattle.firing_core.proofs.cores.Core.end.Goals as goal
use Rattle.firing_core.proofs.cores.Core.end.Goals.{In-Some-take}

pub index-requires : goal.index-requires
index-requires c = let w = flight_within _ c.self.invariant c.in-Some.place c.snap.result.now.device c.in-Some.ensures.within c.in-Some.ensures.there in omega (arith, w, c.self.inside.flying.ok.0)

pub index_mut-requires-2 : goal.index_mut-requires-2
index_mut-requires-2 c = let w = flight_within _ c.self.invariant c.in-Some.place c.snap.result.now.device c.in-Some.ensures.within c.in-Some.ensures.there in omega (arith, w, c.self.inside.flying.ok.0)

clash : (b : Bool) → b ≡ true → b ≡ false → ⊥
clash true p q = absurd cc
clash false p q = absurd cc

pub unreachable-requires : goal.unreachable-requires
unreachable-requires c =
    let w = flight_within (the_view c.self.inside) c.self.invariant c.in-Some.place c.args.fired.snap.device c.in-Some.ensures.within (c.in-Some.ensures.there ∙ ap (λ (s : Snap). s.device) c.snap.ensures.value) in
    let same = same_at c.self.inside.flying.items c.in-Some.place c.index.result.now c.index_mut-2.result.now w c.index.ensures c.index_mut-2.ensures.value in
    clash (is_some c.index.result.now) c.if-is_none.ensures (ap is_some (same ∙ sym c.take.ensures.value ∙ c.in_default-take.is))

pub returns-then-is_none-clause-refused : goal.returns-then-is_none-clause-refused
returns-then-is_none-clause-refused c =
    subst (λ (v : CoreValue). fault_of (core_of v) (EndEntry c.args.fired.snap.device) ≡ Some fault.NotFlying) c.self.view_is
    (end_resting (the_view c.self.inside) c.self.invariant c.in-Some.place c.args.fired.snap.device c.in-Some.ensures.within (c.in-Some.ensures.there ∙ ap (λ (s : Snap). s.device) c.snap.ensures.value) _ c.index.ensures (lives_at c.self.inside.net _ _ c.snap.ensures.value c.in-Some.ensures.lives) c.if-is_none.ensures)

pub returns-clause-accepted : goal.returns-clause-accepted
returns-clause-accepted c =
    subst (λ (v : CoreValue). fault_of (core_of v) (EndEntry c.args.fired.snap.device) ≡ None) c.self.view_is
    (flies (the_view c.self.inside) c.self.invariant c.in-Some.place c.args.fired.snap.device c.in-Some.ensures.within (c.in-Some.ensures.there ∙ ap (λ (s : Snap). s.device) c.snap.ensures.value) _ c.index.ensures (lives_at c.self.inside.net _ _ c.snap.ensures.value c.in-Some.ensures.lives) c.if-is_none.ensures).fault

cleared : (c : In-Some-take)
    → core_parts c.self.inside.program.value c.self.inside.net (slice_set c.self.inside.exports.items c.in-Some.place (Some c.into_parts-snap.result.1)) (slice_set c.self.inside.flying.items c.in-Some.place c.take.new.self)
    ≡ with_export (the_view c.self.inside) c.self.invariant c.in-Some.place c.args.fired.snap.device c.in-Some.ensures.within (c.in-Some.ensures.there ∙ ap (λ (s : Snap). s.device) c.snap.ensures.value) c.into_parts-snap.result.1
cleared c =
    rebuilt_core c.self.inside.program.value _ _ _ _ _ _ refl refl (ap (slice_set c.self.inside.flying.items c.in-Some.place) c.take.ensures.after)

pub invariant_of-self : goal.invariant_of-self
invariant_of-self c =
    subst IsCore (sym (cleared c))
    (ended_kept (the_view c.self.inside) c.self.invariant c.in-Some.place c.args.fired.snap.device c.in-Some.ensures.within (c.in-Some.ensures.there ∙ ap (λ (s : Snap). s.device) c.snap.ensures.value) c.into_parts-snap.result.1
    (fired_export _ _ _ (c.requires.program ∙ ap (λ (v : CoreValue). v.program) (sym c.self.view_is)) c.into_parts-snap.ensures.export c.into_parts-snap.ensures.fired))

pub returns-clause-ok : goal.returns-clause-ok
returns-clause-ok c =
    subst (λ (w : CoreValue). Ends (program_of c.args.self.now) (core_of c.args.self.now) c.args.fired.snap.device (core_of w)) (sym (cleared c))
    (subst (λ (v : CoreValue). Ends (program_of v) (core_of v) c.args.fired.snap.device (core_of (with_export (the_view c.self.inside) c.self.invariant c.in-Some.place c.args.fired.snap.device c.in-Some.ensures.within (c.in-Some.ensures.there ∙ ap (λ (s : Snap). s.device) c.snap.ensures.value) c.into_parts-snap.result.1))) c.self.view_is
    (ends_with (the_view c.self.inside) c.self.invariant c.in-Some.place c.args.fired.snap.device c.in-Some.ensures.within (c.in-Some.ensures.there ∙ ap (λ (s : Snap). s.device) c.snap.ensures.value) _ c.args.fired c.into_parts-snap.result.1
    c.into_parts-snap.ensures.export c.index.ensures (lives_at c.self.inside.net _ _ c.snap.ensures.value c.in-Some.ensures.lives) c.if-is_none.ensures c.into_parts-snap.ensures.fired
    (c.requires.program ∙ ap (λ (v : CoreValue). v.program) (sym c.self.view_is))
    (subst (λ (v : CoreValue). (s : Copy) → (core_of v).flying c.args.fired.snap.device ≡ Some s → s ≡ snap_copy (program_of v) c.args.fired.snap) (sym c.self.view_is) c.requires.copy)))

pub returns-clause-copies : goal.returns-clause-copies
returns-clause-copies c =
    let v = the_view c.self.inside in
    let within = flight_within (the_view c.self.inside) c.self.invariant c.in-Some.place c.args.fired.snap.device c.in-Some.ensures.within (c.in-Some.ensures.there ∙ ap (λ (s : Snap). s.device) c.snap.ensures.value) in
    let lies = subst (λ o. o ≡ get_or c.self.inside.flying.items c.in-Some.place o) (sym c.take.ensures.value ∙ c.in-Some-take.is) c.index_mut-2.ensures.value in (
      subst (λ (w : CoreValue). IsSnap (program_of w) c.in-Some-take.flight) c.self.view_is (flight_kept (program_of v) (numbers v.net.devices) v.flying c.in-Some.place (Some c.in-Some-take.flight) c.self.invariant.flying within lies),
      subst (λ (s : Snap). IsSnap (program_of c.args.self.now) s) (sym c.into_parts-snap.ensures.snap)
          (subst (λ (r : Program). IsSnap (unfolding_of r) c.args.fired.snap) c.requires.program c.into_parts-snap.ensures.fired.snap),
    )

pub returns-clause-publishes : goal.returns-clause-publishes
returns-clause-publishes c =
    let new : CoreValue = with_export (the_view c.self.inside) c.self.invariant c.in-Some.place c.args.fired.snap.device c.in-Some.ensures.within (c.in-Some.ensures.there ∙ ap (λ (s : Snap). s.device) c.snap.ensures.value) c.into_parts-snap.result.1 in
    ap (λ (w : CoreValue). (core_of w).exports) (cleared c)
    ∙ subst (λ (v : CoreValue). (core_of new).exports ≡ put (core_of v).exports c.args.fired.snap.device (Some (tree_of (program_of v) c.args.fired.export))) c.self.view_is
    (published (the_view c.self.inside) c.self.invariant c.in-Some.place c.args.fired.snap.device c.in-Some.ensures.within (c.in-Some.ensures.there ∙ ap (λ (s : Snap). s.device) c.snap.ensures.value) c.into_parts-snap.result.1 c.args.fired.export
    c.into_parts-snap.ensures.export)
