use Rattle.std.proofs.Common.{subst, sym, IfOk, IfErr}
use Rattle.fc_nodes.specs.Program.{unfolding_of}
use Rattle.firing_core.specs.Rooms.{IsRoom}
use Rattle.export_table.specs.Items.{Opening}
use Rattle.export_table.specs.Holding.{HeldValue, HasTurn, list_of}
use Rattle.export_table.specs.Passing.{on_log}
use Rattle.export_table.specs.Turns.{Begins, Pauses}
use Rattle.export_table.proofs.Turning.{same_opening, has_turn, after_turn}
use Rattle.export_table.proofs.OwnFirings.{own_firings}
use Rattle.export_table.proofs.Calls.{next_adds, next_pass, next_began, next_paused, next_keeps}
use Rattle.export_table.proofs.shared.Shared.next.Goals as goal

pub turn-requires-clause-may : goal.turn-requires-clause-may
turn-requires-clause-may g c = λ x a p is. subst (λ (h : HeldValue). HasTurn h × IsRoom (unfolding_of h.book.program) c.args.room) (sym is) (
  has_turn c.args.self.now c.args.pass.now x c.requires.own a c.requires.some,
  subst (λ (o : Opening). IsRoom (unfolding_of o.program) c.args.room) (sym (same_opening c.args.self.now c.args.pass.now x c.requires.own a)) c.requires.room,
)

pub turn-requires-clause-appends : goal.turn-requires-clause-appends
turn-requires-clause-appends g c = λ x y r a call. next_adds x y c.args.pass.now.mine r
    (subst (λ (z : HeldValue × HeldValue). IfOk r (Begins z.0 z.1)) (λ i. (call.shows i, call.leaves i)) call.met.0)
    (subst (λ (z : HeldValue × HeldValue). IfErr r (Pauses z.0 z.1)) (λ i. (call.shows i, call.leaves i)) call.met.1.0)

pub returns-clause-began : goal.returns-clause-began
returns-clause-began g c = let t = c.turn.ensures.turned in
    next_began t.before t.after c.args.self.now c.args.pass.now c.turn.new.pass c.requires.own t.agrees t.entry t.left t.view c.turn.result
    (subst (λ (z : HeldValue × HeldValue). IfOk c.turn.result (Begins z.0 z.1)) (λ i. (t.call.shows i, t.call.leaves i)) t.call.met.0)

pub returns-clause-may_end : goal.returns-clause-may_end
returns-clause-may_end g c = let t = c.turn.ensures.turned in
    own_firings c.args.self.now.opening (on_log c.args.pass.now) (on_log c.turn.new.pass) c.turn.result (next_began t.before t.after c.args.self.now c.args.pass.now c.turn.new.pass c.requires.own t.agrees t.entry t.left t.view c.turn.result
    (subst (λ (z : HeldValue × HeldValue). IfOk c.turn.result (Begins z.0 z.1)) (λ i. (t.call.shows i, t.call.leaves i)) t.call.met.0))

pub returns-clause-paused : goal.returns-clause-paused
returns-clause-paused g c = let t = c.turn.ensures.turned in
    next_paused t.before t.after c.args.self.now c.args.pass.now c.turn.new.pass c.requires.own t.agrees t.entry t.left t.view c.turn.result
    (subst (λ (z : HeldValue × HeldValue). IfErr c.turn.result (Pauses z.0 z.1)) (λ i. (t.call.shows i, t.call.leaves i)) t.call.met.1.0)

pub returns-clause-own : goal.returns-clause-own
returns-clause-own g c = let t = c.turn.ensures.turned in
    next_pass t.before t.after c.args.self.now c.args.pass.now c.turn.new.pass c.requires.own t.agrees t.entry t.left t.view c.turn.result
    (subst (λ (z : HeldValue × HeldValue). IfOk c.turn.result (Begins z.0 z.1)) (λ i. (t.call.shows i, t.call.leaves i)) t.call.met.0)
    (subst (λ (z : HeldValue × HeldValue). IfErr c.turn.result (Pauses z.0 z.1)) (λ i. (t.call.shows i, t.call.leaves i)) t.call.met.1.0)

pub returns-clause-keeps : goal.returns-clause-keeps
returns-clause-keeps g c = let t = c.turn.ensures.turned in
    next_keeps t.before t.after c.args.self.now c.args.pass.now c.turn.new.pass c.requires.own t.agrees t.entry t.left t.view c.turn.result
    (subst (λ (z : HeldValue × HeldValue). IfOk c.turn.result (Begins z.0 z.1)) (λ i. (t.call.shows i, t.call.leaves i)) t.call.met.0)
    (subst (λ (z : HeldValue × HeldValue). IfErr c.turn.result (Pauses z.0 z.1)) (λ i. (t.call.shows i, t.call.leaves i)) t.call.met.1.0)

pub returns-clause-after : goal.returns-clause-after
returns-clause-after g c = let t = c.turn.ensures.turned in after_turn c.args.pass.now c.turn.new.pass (list_of t.before) t.entry t.view
