use Rattle.std.proofs.Common.{subst, sym}
use Rattle.fc_nodes.specs.Program.{unfolding_of}
use Rattle.firing_core.specs.declared.entries.Entry.TheVariants as entry
use Rattle.export_table.specs.Items.{Opening}
use Rattle.export_table.specs.Holding.{HeldValue, list_of}
use Rattle.export_table.specs.Firings.{AreCopies}
use Rattle.export_table.specs.Turns.{MayEnd, EndsIn}
use Rattle.export_table.proofs.Turning.{same_opening, still_pass, after_turn}
use Rattle.export_table.proofs.OwnFirings.{may_end, adds_end, ended}
use Rattle.export_table.proofs.shared.Shared.end.Goals as goal

pub turn-requires-clause-may : goal.turn-requires-clause-may
turn-requires-clause-may g c = λ x a p is. subst (λ (h : HeldValue). MayEnd h c.args.place c.args.fired) (sym is)
    (may_end c.args.self.now c.args.pass.now c.args.place c.args.fired c.requires.own c.requires.firing x a c.requires.some)

pub turn-requires-clause-appends : goal.turn-requires-clause-appends
turn-requires-clause-appends g c = λ x y r a call.
    adds_end c.args.self.now c.args.pass.now c.args.place c.args.fired c.requires.own c.requires.firing x a c.logs_decide.ensures.flight c.runs_cut.ensures.cut y
    (subst (λ (z : HeldValue × HeldValue). EndsIn z.0 z.1 c.args.fired) (λ i. (call.shows i, call.leaves i)) call.met.0)

pub returns-clause-ended : goal.returns-clause-ended
returns-clause-ended g c = let t = c.turn.ensures.turned in
    ended c.args.self.now c.args.pass.now c.args.place c.args.fired c.requires.own c.requires.firing t.before t.agrees c.runs_cut.ensures.cut t.after c.turn.new.pass t.entry t.left t.view
    (subst (λ (z : HeldValue × HeldValue). EndsIn z.0 z.1 c.args.fired) (λ i. (t.call.shows i, t.call.leaves i)) t.call.met.0)

pub returns-clause-copies : goal.returns-clause-copies
returns-clause-copies g c = let t = c.turn.ensures.turned in
    subst (λ (o : Opening). AreCopies (unfolding_of o.program) c.turn.result) (same_opening c.args.self.now c.args.pass.now t.before c.requires.own t.agrees)
    (subst (λ (z : HeldValue). AreCopies (unfolding_of z.book.program) c.turn.result) t.call.shows t.call.met.1)

pub returns-clause-own : goal.returns-clause-own
returns-clause-own g c = let t = c.turn.ensures.turned in
    let ends = subst (λ (z : HeldValue × HeldValue). EndsIn z.0 z.1 c.args.fired) (λ i. (t.call.shows i, t.call.leaves i)) t.call.met.0 in
    still_pass c.args.self.now c.args.pass.now t.before c.requires.own t.agrees t.after c.turn.new.pass t.entry t.left t.view (entry.End c.args.fired.snap.device) ends.turned

pub returns-clause-after : goal.returns-clause-after
returns-clause-after g c = let t = c.turn.ensures.turned in after_turn c.args.pass.now c.turn.new.pass (list_of t.before) t.entry t.view
