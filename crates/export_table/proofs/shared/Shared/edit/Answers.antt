use Rattle.std.proofs.Common.{subst, sym, IfErr, OnOk}
use Rattle.fc_nodes.specs.Program.{unfolding_of}
use Rattle.firing_core.specs.Entries.{edit_of}
use Rattle.firing_core.specs.Cores.{EditFits}
use Rattle.export_table.specs.Items.{Opening}
use Rattle.export_table.specs.Holding.{HeldValue, HasTurn, list_of}
use Rattle.export_table.specs.Turns.{EditsIn, RefusesIn}
use Rattle.export_table.proofs.Turning.{same_opening, has_turn, after_turn}
use Rattle.export_table.proofs.Calls.{edit_adds, edit_pass, edit_edited, edit_refused, edit_takes, edit_keeps}
use Rattle.export_table.proofs.shared.Shared.edit.Goals as goal

pub turn-requires-clause-may : goal.turn-requires-clause-may
turn-requires-clause-may g c = λ x a p is. subst (λ (h : HeldValue). HasTurn h × EditFits (unfolding_of h.book.program) (edit_of c.args.edit)) (sym is) (
  has_turn c.args.self.now c.args.pass.now x c.requires.own a c.requires.some,
  subst (λ (o : Opening). EditFits (unfolding_of o.program) (edit_of c.args.edit)) (sym (same_opening c.args.self.now c.args.pass.now x c.requires.own a)) c.requires.fits,
)

pub turn-requires-clause-appends : goal.turn-requires-clause-appends
turn-requires-clause-appends g c = λ x y r a call. edit_adds x y c.args.edit c.args.pass.now.mine r
    (subst (λ (z : HeldValue × HeldValue). OnOk r (EditsIn z.0 z.1 c.args.edit)) (λ i. (call.shows i, call.leaves i)) call.met.0)
    (subst (λ (z : HeldValue × HeldValue). IfErr r (RefusesIn z.0 z.1 (edit_of c.args.edit))) (λ i. (call.shows i, call.leaves i)) call.met.1)

pub returns-clause-edited : goal.returns-clause-edited
returns-clause-edited g c = let t = c.turn.ensures.turned in
    edit_edited t.before t.after c.args.edit c.args.self.now c.args.pass.now c.turn.new.pass c.requires.own t.agrees t.entry t.left t.view c.turn.result
    (subst (λ (z : HeldValue × HeldValue). OnOk c.turn.result (EditsIn z.0 z.1 c.args.edit)) (λ i. (t.call.shows i, t.call.leaves i)) t.call.met.0)

pub returns-clause-refused : goal.returns-clause-refused
returns-clause-refused g c = let t = c.turn.ensures.turned in
    edit_refused t.before t.after c.args.edit c.args.self.now c.args.pass.now c.turn.new.pass c.requires.own t.agrees t.entry t.left t.view c.turn.result
    (subst (λ (z : HeldValue × HeldValue). IfErr c.turn.result (RefusesIn z.0 z.1 (edit_of c.args.edit))) (λ i. (t.call.shows i, t.call.leaves i)) t.call.met.1)

pub returns-clause-memory : goal.returns-clause-memory
returns-clause-memory g c = let t = c.turn.ensures.turned in
    edit_takes t.before t.after c.args.edit c.turn.result
    (subst (λ (z : HeldValue × HeldValue). IfErr c.turn.result (RefusesIn z.0 z.1 (edit_of c.args.edit))) (λ i. (t.call.shows i, t.call.leaves i)) t.call.met.1)

pub returns-clause-own : goal.returns-clause-own
returns-clause-own g c = let t = c.turn.ensures.turned in
    edit_pass t.before t.after c.args.edit c.args.self.now c.args.pass.now c.turn.new.pass c.requires.own t.agrees t.entry t.left t.view c.turn.result
    (subst (λ (z : HeldValue × HeldValue). OnOk c.turn.result (EditsIn z.0 z.1 c.args.edit)) (λ i. (t.call.shows i, t.call.leaves i)) t.call.met.0)
    (subst (λ (z : HeldValue × HeldValue). IfErr c.turn.result (RefusesIn z.0 z.1 (edit_of c.args.edit))) (λ i. (t.call.shows i, t.call.leaves i)) t.call.met.1)

pub returns-clause-keeps : goal.returns-clause-keeps
returns-clause-keeps g c = let t = c.turn.ensures.turned in
    edit_keeps t.before t.after c.args.edit c.args.self.now c.args.pass.now c.turn.new.pass c.requires.own t.agrees t.entry t.left t.view c.turn.result
    (subst (λ (z : HeldValue × HeldValue). OnOk c.turn.result (EditsIn z.0 z.1 c.args.edit)) (λ i. (t.call.shows i, t.call.leaves i)) t.call.met.0)
    (subst (λ (z : HeldValue × HeldValue). IfErr c.turn.result (RefusesIn z.0 z.1 (edit_of c.args.edit))) (λ i. (t.call.shows i, t.call.leaves i)) t.call.met.1)

pub returns-clause-after : goal.returns-clause-after
returns-clause-after g c = let t = c.turn.ensures.turned in after_turn c.args.pass.now c.turn.new.pass (list_of t.before) t.entry t.view
