use Rattle.std.proofs.Common.{◌≡◌, ◌+◌, ap, subst, ◌∙◌}
use Rattle.fc_nodes.specs.Program.{unfolding_of}
use Rattle.topology.specs.Networks.{Network, IsNetwork}
use Rattle.firing_core.specs.CoreViews.{CoreValue, core_of}
use Rattle.firing_core.specs.Books.{BookValue, AppendsEntry}
use Rattle.firing_core.specs.Entries.{edit_of}
use Rattle.firing_core.specs.declared.entries.Entry.TheVariants as entry
use Rattle.export_table.specs.Changes.{IsChange, after_change}
use Rattle.firing_core.specs.Refusals.{RefusesEdit}
use Rattle.export_table.specs.Holding.{HeldValue, Turned, core_in}
use Rattle.export_table.proofs.Planning.{plans_edit, plans_idle}
use Rattle.export_table.proofs.Keeping.{keeps, past_in, turned, idle_begins, edit_begins}
use Rattle.export_table.proofs.held.Held.edit.Goals as goal

-- the agenda has no memory for what changes
pub invariant_of-self : goal.invariant_of-self
invariant_of-self c = let h = c.self.inside in let i = c.self.invariant in let s = c.idle.ensures.appended in let same = c.prepare.ensures in
    keeps h.book c.idle.new.self h.agenda.rounds h.turns h.front h.agenda c.prepare.new.self entry.Idle i s c.idle.ensures.room
    same.rounds
    (plans_idle (unfolding_of h.book.program) _ _ _ _ h.agenda c.prepare.new.self i.plans (past_in _ h.agenda i) same.rounds s.step same.rows)
    (λ d is. idle_begins d is)

pub returns-in_default-clause-idle : goal.returns-in_default-clause-idle
returns-in_default-clause-idle c = let h = c.self.inside in
    subst (λ (z : HeldValue). Turned z (record { book = c.idle.new.self; rounds = c.prepare.new.self.rounds; turns = h.turns; front = h.front }) entry.Idle) c.self.view_is
    (turned h.book c.idle.new.self h.agenda.rounds h.turns h.front h.agenda c.prepare.new.self.rounds entry.Idle c.self.invariant c.core.ensures.book c.idle.ensures.appended c.prepare.ensures.rounds)

pub invariant_of-self-in-Ok-edit : goal.invariant_of-self-in-Ok-edit
invariant_of-self-in-Ok-edit c = let h = c.self.inside in let i = c.self.invariant in let ok = c.in-Ok-edit.ensures in let s = ok.ok in let x = edit_of c.args.edit in
    let before = c.prepare.ensures in
    let net = subst (λ (k : CoreValue). IsNetwork k.net) c.core.ensures.value c.net.ensures.core.net in
    let change = subst (λ (n : Network). IsChange n.devices x c.change_of-change.result) (c.net.ensures.value ∙ ap (λ (k : CoreValue). k.net) c.core.ensures.value) c.change_of-change.ensures in
    keeps h.book c.edit.new.self h.agenda.rounds h.turns h.front h.agenda c.change.new.self (entry.Edit c.args.edit) i s ok.room
    (c.change.ensures.rounds ∙ before.rounds)
    (plans_edit (unfolding_of h.book.program) _ _ _ (core_of c.edit.new.self.core) h.agenda c.change.new.self i.plans (past_in _ h.agenda i) (c.change.ensures.rounds ∙ before.rounds) x c.change_of-change.result net.rising change
    (c.change.ensures.rows ∙ ap (λ rows. after_change rows c.change_of-change.result) before.rows) ok.accepted s.step)
    (λ d is. edit_begins x d is)

pub invariant_of-self-in-Err : goal.invariant_of-self-in-Err
invariant_of-self-in-Err c = let h = c.self.inside in let i = c.self.invariant in let same = c.in-Err.ensures.err in let before = c.prepare.ensures in
    let s = subst (λ (b : BookValue). AppendsEntry b c.idle-in-Err.new.self entry.Idle) same c.idle-in-Err.ensures.appended in
    keeps h.book c.idle-in-Err.new.self h.agenda.rounds h.turns h.front h.agenda c.prepare.new.self entry.Idle i s (subst (λ (b : BookValue). c.idle-in-Err.new.self.spare + 1 ≡ b.spare) same c.idle-in-Err.ensures.room)
    before.rounds
    (plans_idle (unfolding_of h.book.program) _ _ _ _ h.agenda c.prepare.new.self i.plans (past_in _ h.agenda i) before.rounds s.step before.rows)
    (λ d is. idle_begins d is)

pub returns-in-Ok-edit-clause-edited : goal.returns-in-Ok-edit-clause-edited
returns-in-Ok-edit-clause-edited c = let h = c.self.inside in
    subst (λ (z : HeldValue). Turned z (record { book = c.edit.new.self; rounds = c.change.new.self.rounds; turns = h.turns; front = h.front }) (entry.Edit c.args.edit)) c.self.view_is
    (turned h.book c.edit.new.self h.agenda.rounds h.turns h.front h.agenda c.change.new.self.rounds (entry.Edit c.args.edit) c.self.invariant c.core.ensures.book c.in-Ok-edit.ensures.ok (c.change.ensures.rounds ∙ c.prepare.ensures.rounds))

pub returns-in-Err-clause-idle : goal.returns-in-Err-clause-idle
returns-in-Err-clause-idle c = let h = c.self.inside in
    let s = subst (λ (b : BookValue). AppendsEntry b c.idle-in-Err.new.self entry.Idle) c.in-Err.ensures.err c.idle-in-Err.ensures.appended in
    subst (λ (z : HeldValue). Turned z (record { book = c.idle-in-Err.new.self; rounds = c.prepare.new.self.rounds; turns = h.turns; front = h.front }) entry.Idle) c.self.view_is
    (turned h.book c.idle-in-Err.new.self h.agenda.rounds h.turns h.front h.agenda c.prepare.new.self.rounds entry.Idle c.self.invariant c.core.ensures.book s c.prepare.ensures.rounds)

pub returns-in-Err-clause-refused : goal.returns-in-Err-clause-refused
returns-in-Err-clause-refused c = subst (λ (z : HeldValue). RefusesEdit (core_in z) (edit_of c.args.edit) c.in-Err.fault) c.self.view_is c.in-Err.ensures.refused
