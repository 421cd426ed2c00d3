use Rattle.std.proofs.Common.{◌≡◌, sym, subst, Some, arith}
use Rattle.topology.specs.declared.types.NetFault.TheVariants as fault
use Rattle.topology.proofs.Lemmas.{left_network}
use Rattle.firing_core.specs.Entries.{LeaveEdit}
use Rattle.firing_core.specs.Cores.{Edits, edit_fault}
use Rattle.firing_core.specs.CoreViews.{CoreValue, IsCore, core_of, program_of}
use Rattle.firing_core.specs.contracts.cores.Core.{the_view}
use Rattle.firing_core.proofs.CoreSteps.{flight_within, flies, not_flying}
use Rattle.firing_core.proofs.CoreEdits.{left_core, left_kept, leave_allowed, leave_in_flight, rebuilt_core, without}
use Rattle.firing_core.proofs.cores.Core.leave.Goals as goal

pub index-requires : goal.index-requires
index-requires c = let w = flight_within _ c.self.invariant c.in-Some.place c.args.device c.in-Some.ensures.within c.in-Some.ensures.there in omega (arith, w, c.self.inside.flying.ok.0)

pub returns-then-flies-clause-refused : goal.returns-then-flies-clause-refused
returns-then-flies-clause-refused c =
    let f = flies (the_view c.self.inside) c.self.invariant c.in-Some.place c.args.device c.in-Some.ensures.within c.in-Some.ensures.there _ c.index.ensures c.in-Some.ensures.lives (sym c.if-flies.ensures) in
    subst (λ (v : CoreValue). edit_fault (core_of v) (LeaveEdit c.args.device) ≡ Some fault.InFlight) c.self.view_is
    (leave_in_flight (the_view c.self.inside) c.args.device _ c.in-Some.ensures.lives f.flies)

pub remove-requires-2 : goal.remove-requires-2
remove-requires-2 c = let w = flight_within _ c.self.invariant c.in-Some.place c.args.device c.in-Some.ensures.within c.in-Some.ensures.there in omega (arith, w, c.self.inside.flying.ok.0)

pub invariant_of-self-2 : goal.invariant_of-self-2
invariant_of-self-2 c =
    let v = the_view c.self.inside in
    subst IsCore (sym (rebuilt_core v.program _ _ _ _ _ _ c.in_default-leave.ensures.ok c.remove.ensures.items c.remove-2.ensures.items))
    (left_kept (the_view c.self.inside) c.self.invariant c.in-Some.place c.args.device c.in-Some.ensures.within c.in-Some.ensures.there c.in-Some.ensures.lives
    (left_network v.net c.args.device c.self.invariant.net c.in_default-leave.ensures.accepted))

pub returns-clause-ok : goal.returns-clause-ok
returns-clause-ok c =
    let v = the_view c.self.inside in
    let rests = not_flying (the_view c.self.inside) c.self.invariant c.in-Some.place c.args.device c.in-Some.ensures.within c.in-Some.ensures.there _ c.index.ensures (sym c.if-flies.ensures) in
    subst (λ (w : CoreValue). Edits (program_of c.args.self.now) (core_of c.args.self.now) (LeaveEdit c.args.device) (core_of w))
    (sym (rebuilt_core v.program _ _ _ _ _ _ c.in_default-leave.ensures.ok c.remove.ensures.items c.remove-2.ensures.items))
    (subst (λ (w : CoreValue). Edits (program_of w) (core_of w) (LeaveEdit c.args.device) (core_of (without (the_view c.self.inside) c.in-Some.place c.args.device))) c.self.view_is
    (record {
      fits = tt;
      allowed = leave_allowed (the_view c.self.inside) c.args.device c.in_default-leave.ensures.accepted rests;
      after = left_core (the_view c.self.inside) c.self.invariant c.in-Some.place c.args.device c.in-Some.ensures.within c.in-Some.ensures.there c.in-Some.ensures.lives rests;
    }))
