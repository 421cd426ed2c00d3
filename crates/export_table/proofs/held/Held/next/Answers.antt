use Rattle.std.proofs.Common.{◌≡◌, ◌+◌, ap, subst, ◌∙◌}
use Rattle.std.specs.Prelude.{slice_set}
use Rattle.fc_nodes.specs.Program.{unfolding_of}
use Rattle.topology.specs.Networks.{IsNetwork}
use Rattle.firing_core.specs.CoreViews.{CoreValue, core_of}
use Rattle.firing_core.specs.Books.{BookValue, AppendsEntry}
use Rattle.firing_core.specs.declared.entries.Entry.TheVariants as entry
use Rattle.export_table.specs.Begins.{IsNext}
use Rattle.export_table.specs.Agendas.{AgendaValue, begun_row, row_at}
use Rattle.export_table.specs.Holding.{HeldValue, Turned, opening_in, log_in, core_in}
use Rattle.export_table.specs.Turns.{Rests}
use Rattle.export_table.proofs.Planning.{plans_begin, plans_idle}
use Rattle.export_table.proofs.Paces.{none_may, all_over, found_next}
use Rattle.export_table.proofs.Keeping.{keeps, past_in, turned, idle_begins, same_device}
use Rattle.export_table.proofs.Ending.{may_begin_now}
use Rattle.export_table.proofs.held.Held.next.Goals as goal

pub invariant_of-self : goal.invariant_of-self
invariant_of-self c = let h = c.self.inside in let i = c.self.invariant in let s = c.idle.ensures.appended in let same = c.next.ensures.same in
    keeps h.book c.idle.new.self h.agenda.rounds h.turns h.front h.agenda c.next.new.self entry.Idle i s c.idle.ensures.room
    (ap (λ (a : AgendaValue). a.rounds) same)
    (plans_idle (unfolding_of h.book.program) _ _ _ _ h.agenda c.next.new.self i.plans (past_in _ h.agenda i) (ap (λ (a : AgendaValue). a.rounds) same) s.step (ap (λ (a : AgendaValue). a.rows) same))
    (λ d is. idle_begins d is)

-- nothing may begin
pub returns-in-Rests-clause-pauses : goal.returns-in-Rests-clause-pauses
returns-in-Rests-clause-pauses c = let h = c.self.inside in let i = c.self.invariant in let found = c.in-Rests.ensures.found in
    let net = subst (λ (k : CoreValue). IsNetwork k.net) c.core.ensures.value c.net-net.ensures.core.net in
    let same = ap (λ (a : AgendaValue). a.rounds) c.next.ensures.same in
    subst (λ (z : HeldValue). Rests z (record { book = c.idle.new.self; rounds = c.next.new.self.rounds; turns = h.turns; front = h.front }) c.in-Rests.is_over) c.self.view_is (record {
      turned = turned h.book c.idle.new.self h.agenda.rounds h.turns h.front h.agenda c.next.new.self.rounds entry.Idle i c.core.ensures.book c.idle.ensures.appended same;
      none = none_may _ _ (core_of h.book.core) h.agenda i.plans net.rising c.in-Rests.is_over found;
      over = all_over _ _ (core_of h.book.core) h.agenda i.plans net.rising c.in-Rests.is_over found;
    })

-- an export can't be shared once more
pub invariant_of-self-in-Err : goal.invariant_of-self-in-Err
invariant_of-self-in-Err c = let h = c.self.inside in let i = c.self.invariant in let idle = c.idle-in-Err in let same = c.next.ensures.same in let err = c.in-Err.ensures.err in
    let s = subst (λ (b : BookValue). AppendsEntry b idle.new.self entry.Idle) err idle.ensures.appended in
    keeps h.book idle.new.self h.agenda.rounds h.turns h.front h.agenda c.next.new.self entry.Idle i s (subst (λ (b : BookValue). idle.new.self.spare + 1 ≡ b.spare) err idle.ensures.room)
    (ap (λ (a : AgendaValue). a.rounds) same)
    (plans_idle (unfolding_of h.book.program) _ _ _ _ h.agenda c.next.new.self i.plans (past_in _ h.agenda i) (ap (λ (a : AgendaValue). a.rounds) same) s.step (ap (λ (a : AgendaValue). a.rows) same))
    (λ d is. idle_begins d is)

pub returns-in-Memory-clause-pauses : goal.returns-in-Memory-clause-pauses
returns-in-Memory-clause-pauses c = let h = c.self.inside in let idle = c.idle-in-Err in
    let s = subst (λ (b : BookValue). AppendsEntry b idle.new.self entry.Idle) c.in-Err.ensures.err idle.ensures.appended in
    subst (λ (z : HeldValue). Turned z (record { book = idle.new.self; rounds = c.next.new.self.rounds; turns = h.turns; front = h.front }) entry.Idle) c.self.view_is
    (turned h.book idle.new.self h.agenda.rounds h.turns h.front h.agenda c.next.new.self.rounds entry.Idle c.self.invariant c.core.ensures.book s (ap (λ (a : AgendaValue). a.rounds) c.next.ensures.same))

pub invariant_of-self-in-Ok : goal.invariant_of-self-in-Ok
invariant_of-self-in-Ok c = let h = c.self.inside in let i = c.self.invariant in let d = c.device-device.result in let ok = c.in-Ok.ensures in let s = ok.ok in
    let net = subst (λ (k : CoreValue). IsNetwork k.net) c.core.ensures.value c.net-net.ensures.core.net in
    let next = found_next _ _ (core_of h.book.core) h.agenda c.next.new.self c.in-Begins.place d i.plans net.rising c.next.ensures.same c.in-Begins.ensures.found c.device-device.ensures in
    let rounds = c.begin.ensures.rounds ∙ ap (λ (a : AgendaValue). a.rounds) c.next.ensures.same in
    keeps h.book c.begin_with.new.self h.agenda.rounds h.turns h.front h.agenda c.begin.new.self (entry.Begin d) i s ok.spare
    rounds
    (plans_begin (unfolding_of h.book.program) _ _ _ (core_of c.begin_with.new.self.core) h.agenda c.begin.new.self i.plans (past_in _ h.agenda i) rounds d c.in-Begins.place net.rising next.1 next.2 s.step
    (c.begin.ensures.rows ∙ ap (λ (a : AgendaValue). slice_set a.rows c.in-Begins.place (begun_row (row_at a.rows c.in-Begins.place))) c.next.ensures.same))
    (λ e is. (c.core.ensures.book, c.logs_decide.ensures.one, subst (IsNext _ _ _) (same_device d e is) next.0))

-- a device that is next has no other fault
pub unreachable-requires : goal.unreachable-requires
unreachable-requires c = let h = c.self.inside in let i = c.self.invariant in let d = c.device-device.result in
    let net = subst (λ (k : CoreValue). IsNetwork k.net) c.core.ensures.value c.net-net.ensures.core.net in
    let next = found_next _ _ (core_of h.book.core) h.agenda c.next.new.self c.in-Begins.place d i.plans net.rising c.next.ensures.same c.in-Begins.ensures.found c.device-device.ensures in
    let may = (next.0).may in
    may_begin_now (core_of h.book.core) d c.in-Err.why may.there may.rests c.in_default.not-Memory c.in-Err.ensures.refused

pub returns-in-Ok-clause-turned : goal.returns-in-Ok-clause-turned
returns-in-Ok-clause-turned c = let h = c.self.inside in
    subst (λ (z : HeldValue). Turned z (record { book = c.begin_with.new.self; rounds = c.begin.new.self.rounds; turns = h.turns; front = h.front }) (entry.Begin c.device-device.result)) c.self.view_is
    (turned h.book c.begin_with.new.self h.agenda.rounds h.turns h.front h.agenda c.begin.new.self.rounds (entry.Begin c.device-device.result) c.self.invariant c.core.ensures.book c.in-Ok.ensures.ok
    (c.begin.ensures.rounds ∙ ap (λ (a : AgendaValue). a.rounds) c.next.ensures.same))

pub returns-in-Ok-clause-next : goal.returns-in-Ok-clause-next
returns-in-Ok-clause-next c = let h = c.self.inside in let i = c.self.invariant in let d = c.device-device.result in
    let net = subst (λ (k : CoreValue). IsNetwork k.net) c.core.ensures.value c.net-net.ensures.core.net in
    let next = found_next _ _ (core_of h.book.core) h.agenda c.next.new.self c.in-Begins.place d i.plans net.rising c.next.ensures.same c.in-Begins.ensures.found c.device-device.ensures in
    subst (λ (z : HeldValue). IsNext (opening_in z) (log_in z) (core_in z) d) c.self.view_is next.0
