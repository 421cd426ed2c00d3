use Rattle.std.proofs.Common.{◌≡◌, ap, subst, sym, ◌∙◌, false, Some}
use Rattle.fc_values.specs.Trees.{TreeExport}
use Rattle.value_trees.specs.Snaps.{tree_of}
use Rattle.fc_nodes.specs.Program.{unfolding_of}
use Rattle.value_trees.specs.declared.copies.Snap.{Snap}
use Rattle.topology.specs.Networks.{Network, IsNetwork, lives}
use Rattle.firing_core.specs.Cores.{Map, IsGood}
use Rattle.firing_core.specs.CoreViews.{CoreValue, core_of, program_of}
use Rattle.firing_core.specs.declared.entries.Entry.TheVariants as entry
use Rattle.export_table.specs.Holding.{HeldValue}
use Rattle.export_table.proofs.Planning.{plans_end, place_in, put_same}
use Rattle.export_table.proofs.Keeping.{keeps, past_in, end_begins}
use Rattle.export_table.proofs.Ending.{flies_at, may_end, no_fault, same_copy}
use Rattle.export_table.proofs.held.Held.end.Goals as goal

pub unreachable-requires : goal.unreachable-requires
unreachable-requires c = let d = c.args.fired.snap.device in
    let flies = flies_at _ c.args.self.now c.self.view_is c.core.ensures.book c.logs_decide.ensures.flight c.runs_cut.ensures.cut c.args.place c.args.fired.snap c.requires.open c.requires.copy in
    let good = subst (λ (k : CoreValue). IsGood (program_of k) (core_of k)) c.core.ensures.value c.net.ensures.good in
    let there = (may_end _ _ d _ good flies).0 in
    let gone = subst (λ (z : Network × Snap). lives z.0 z.1.device ≡ false) (λ i. ((c.net.ensures.value ∙ ap (λ (k : CoreValue). k.net) c.core.ensures.value) i, c.snap.ensures.value i)) c.in_default.ensures.none in
    absurd (cc (there, gone))

pub end-requires-clause-copy : goal.end-requires-clause-copy
end-requires-clause-copy c = λ s e. same_copy s _ (sym e ∙ flies_at _ c.args.self.now c.self.view_is c.core.ensures.book c.logs_decide.ensures.flight c.runs_cut.ensures.cut c.args.place c.args.fired.snap c.requires.open c.requires.copy)

pub invariant_of-self : goal.invariant_of-self
invariant_of-self c = let h = c.self.inside in let i = c.self.invariant in let d = c.args.fired.snap.device in let ok = c.in-Ok.ensures in let s = ok.ok in let end = c.end-in-Ok.ensures in
    let net = subst (λ (k : CoreValue). IsNetwork k.net) c.core.ensures.value c.net.ensures.core.net in
    let placed = place_in c.net.result.now h.book.core.net d c.in-Some.row (c.net.ensures.value ∙ ap (λ (k : CoreValue). k.net) c.core.ensures.value) c.in-Some.ensures.within
    (c.in-Some.ensures.there ∙ ap (λ (f : Snap). f.device) c.snap.ensures.value) in
    keeps h.book c.end.new.self h.agenda.rounds h.turns h.front h.agenda c.end-in-Ok.new.self (entry.End d) i s ok.spare
    end.rounds
    (plans_end (unfolding_of h.book.program) _ _ _ (core_of c.end.new.self.core) h.agenda c.end-in-Ok.new.self i.plans (past_in _ h.agenda i) end.rounds d c.in-Some.row net.rising placed.0 placed.1 s.step end.rows)
    (λ e is. end_begins d e is)

pub unreachable-requires-in-Err : goal.unreachable-requires-in-Err
unreachable-requires-in-Err c =
    let flies = flies_at _ c.args.self.now c.self.view_is c.core.ensures.book c.logs_decide.ensures.flight c.runs_cut.ensures.cut c.args.place c.args.fired.snap c.requires.open c.requires.copy in
    let good = subst (λ (k : CoreValue). IsGood (program_of k) (core_of k)) c.core.ensures.value c.net.ensures.good in
    no_fault _ _ c.args.fired.snap.device _ _ good flies c.in-Err.ensures.refused

pub returns-clause-publishes : goal.returns-clause-publishes
returns-clause-publishes c = let h = c.self.inside in let d = c.args.fired.snap.device in
    ap (λ (m : Map TreeExport). m d) c.in-Ok.ensures.publishes ∙ (put_same (core_of h.book.core).exports d _ ∙ ap (λ (z : HeldValue). Some (tree_of (unfolding_of z.book.program) c.args.fired.export)) c.self.view_is)
