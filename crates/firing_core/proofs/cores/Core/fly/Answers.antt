use Rattle.std.proofs.Common.{◌≡◌, sym, subst, refl, Some, arith}
use Rattle.std.specs.Prelude.{slice_set}
use Rattle.value_trees.specs.Snaps.{IsSnap}
use Rattle.firing_core.specs.Replays.{fault_of}
use Rattle.firing_core.specs.CoreViews.{CoreValue, core_of, program_of}
use Rattle.firing_core.specs.TakeOffs.{TakesOff}
use Rattle.firing_core.specs.Entries.{BeginEntry}
use Rattle.firing_core.specs.declared.entries.StepFault.TheVariants as fault
use Rattle.firing_core.proofs.CoreSteps.{flight_within, begin_flying, not_flying, flown_core, begun_kept}
use Rattle.firing_core.proofs.cores.Core.fly.Goals as goal

pub index-requires : goal.index-requires
index-requires c = let w = flight_within _ c.self.invariant c.in-Some.place c.args.snap.device c.in-Some.ensures.within c.in-Some.ensures.there in omega (arith, w, c.self.inside.flying.ok.0)

pub index_mut-requires : goal.index_mut-requires
index_mut-requires c = let w = flight_within _ c.self.invariant c.in-Some.place c.args.snap.device c.in-Some.ensures.within c.in-Some.ensures.there in omega (arith, w, c.self.inside.flying.ok.0)

pub returns-then-is_some-clause-refused : goal.returns-then-is_some-clause-refused
returns-then-is_some-clause-refused c =
    subst (λ (v : CoreValue). fault_of (core_of v) (BeginEntry c.args.snap.device) ≡ Some fault.Flying) c.self.view_is
    (begin_flying _ c.self.invariant c.in-Some.place c.args.snap.device c.in-Some.ensures.within c.in-Some.ensures.there _ c.index.ensures c.in-Some.ensures.lives (sym c.if-is_some.ensures))

pub invariant_of-self : goal.invariant_of-self
invariant_of-self c =
    begun_kept _ c.self.invariant c.in-Some.place c.args.snap.device c.in-Some.ensures.within c.in-Some.ensures.there c.args.snap refl
    (subst (λ (v : CoreValue). IsSnap (program_of v) c.args.snap) (sym c.self.view_is) c.requires)

pub returns-clause-ok : goal.returns-clause-ok
returns-clause-ok c =
    let new : CoreValue = record { program = c.self.inside.program.value; net = c.self.inside.net; exports = c.self.inside.exports.items; flying = slice_set c.self.inside.flying.items c.in-Some.place (Some c.args.snap) } in
    subst (λ (v : CoreValue). TakesOff (program_of v) (core_of v) c.args.snap (core_of new)) c.self.view_is (record {
      there = c.in-Some.ensures.lives;
      rests = not_flying _ c.self.invariant c.in-Some.place c.args.snap.device c.in-Some.ensures.within c.in-Some.ensures.there _ c.index.ensures (sym c.if-is_some.ensures);
      after = flown_core _ c.self.invariant c.in-Some.place c.args.snap.device c.in-Some.ensures.within c.in-Some.ensures.there c.args.snap;
    })
