-- Steps as a relation and as a function, and what steps keep.
use Rattle.std.proofs.Common.{◌≡◌, ℕ, List, [], ◌∷◌, ◌++◌, length, refl, sym, ◌∙◌, ap, subst, Bool, true, false, not, Option, Some, None, is_some, nat_eq, nat_le}
use Rattle.fc_values.specs.Fields.{ValueLocal, ValueField, is_in}
use Rattle.fc_values.specs.Trees.{TreeExport, Copy}
use Rattle.fc_nodes.specs.Program.{Unfolding}
use Rattle.device_eval.specs.Evaluation.{Outcome, eval_of}
use Rattle.device_eval.specs.Copies.{EvaluatesCopy, situation_of, env_of}
use Rattle.device_eval.proofs.Agree.{rule_gives, gives_rule}
use Rattle.topology.specs.declared.types.NetFault.{NetFault}
use Rattle.topology.specs.declared.types.NetFault.TheVariants as net_fault
use Rattle.topology.specs.Networks.{numbers}
use Rattle.topology.specs.Changes.{insert_device, drop_device}
use Rattle.topology.proofs.Lemmas.{put_numbers, insert_in, drop_in}
use Rattle.topology.proofs.Lemmas.{no_fault}
use Rattle.firing_core.specs.Entries.{EditValue, LinkEdit, UnlinkEdit, SetEdit, PokeEdit, JoinEdit, LeaveEdit, EntryValue, BeginEntry, EndEntry, IdleEntry, EditEntry}
use Rattle.firing_core.specs.declared.entries.StepFault.{StepFault}
use Rattle.topology.specs.Networks.{lives, Lives}
use Rattle.firing_core.specs.Cores.{Map, Core, begun, ended, Ends, Edits, edit_fault, edited, Step, Run, IsGood}
use Rattle.firing_core.specs.Replays.{export_from, evaluated, begin_fault, end_fault, fault_of, net_fault_of, EntryFits, LogFits, flown, landed, unless, step_of, step, and_replay, replay, FailsAt}
use Rattle.fc_values.proofs.Booleans.{or_true}
use Rattle.firing_core.proofs.Maps.{put_case}

-- only devices that are there fly
pub record FlyThere (c : Core) : Type 0 where
  pub there : (d : ℕ) (s : Copy) → c.flying d ≡ Some s → Lives c.net d

pub good_fly : (U : Unfolding) (c : Core) → IsGood U c → FlyThere c
good_fly U c good = record { there = λ d s q. (good.flying d s q).there }

begun_fly : (c : Core) (t : Map TreeExport) (d : ℕ) → FlyThere c → Lives c.net d → FlyThere (begun t c d)
begun_fly c t d fly h = record {
  there = λ e s. put_case (λ (v : Option Copy). v ≡ Some s → Lives c.net e) c.flying d e _ (λ q r. subst (λ (k : ℕ). Lives c.net k) (sym q) h) (fly.there e s);
}

ended_fly : (c : Core) (d : ℕ) (x : TreeExport) → FlyThere c → FlyThere (ended c d x)
ended_fly c d x fly = record {
  there = λ e s. put_case (λ (v : Option Copy). v ≡ Some s → Lives c.net e) c.flying d e None (λ q r. absurd cc) (fly.there e s);
}

pub not_some : {X : Type 0} (o : Option X) → is_some o ≡ false → o ≡ None
not_some None e = refl
not_some (Some x) e = absurd cc

-- a device that may leave is there, and isn't in flight
pub record MayLeave (c : Core) (d : ℕ) : Type 0 where
  pub there : Lives c.net d
  pub rests : c.flying d ≡ None
  pub others : nat_le (length c.net.devices) 1 ≡ false

lives_true : (p : Bool) → not p ≡ false → p ≡ true
lives_true true e = refl
lives_true false e = absurd cc

pub may_leave : (c : Core) (d : ℕ) → edit_fault c (LeaveEdit d) ≡ None → MayLeave c d
may_leave c d e =
    let p = no_fault (not (lives c.net d)) net_fault.NoDevice ((is_some (c.flying d), net_fault.InFlight) ∷ (nat_le (length c.net.devices) 1, net_fault.Last) ∷ []) e in
    let q = no_fault (is_some (c.flying d)) net_fault.InFlight ((nat_le (length c.net.devices) 1, net_fault.Last) ∷ []) p.1 in
    let r = no_fault (nat_le (length c.net.devices) 1) net_fault.Last [] q.1 in
    record { there = lives_true (lives c.net d) p.0; rests = not_some (c.flying d) q.0; others = r.0 }

-- another device stays where one leaves
pub stays : (c : Core) (d e : ℕ) → (d ≡ e → ⊥) → Lives c.net e → is_in e (numbers (drop_device d c.net.devices)) ≡ true
stays c d e u h = drop_in d e c.net.devices u ∙ h

edited_fly : (U : Unfolding) (c : Core) (e : EditValue) → FlyThere c → edit_fault c e ≡ None → FlyThere (edited U c e)
edited_fly U c (LinkEdit a b w) fly q = record { there = fly.there }
edited_fly U c (UnlinkEdit a b) fly q = record { there = fly.there }
edited_fly U c (SetEdit d i v) fly q = record { there = λ e s r. ap (is_in e) (put_numbers d i v c.net.devices) ∙ fly.there e s r }
edited_fly U c (PokeEdit d x) fly q = record { there = fly.there }
edited_fly U c (JoinEdit x) fly q = record {
  there = λ e s. put_case (λ (v : Option Copy). v ≡ Some s → is_in e (numbers (insert_device x c.net.devices)) ≡ true) c.flying x.id e None (λ k r. absurd cc)
      (λ r. insert_in e x c.net.devices ∙ or_true (nat_eq e x.id) (lives c.net e) (fly.there e s r));
}
edited_fly U c (LeaveEdit d) fly q = record {
  there = λ e s r. stays c d e (λ k. let m = may_leave c d q in let n = m.rests in let f : c.flying d ≡ Some s = ap c.flying k ∙ r in absurd cc) (fly.there e s r);
}

pub step_fly : (U : Unfolding) (c next : Core) (e : EntryValue) → FlyThere c → Step U c e next → FlyThere next
step_fly U c next (BeginEntry d) fly s = subst FlyThere (sym s.2) (begun_fly c c.exports d fly s.0)
step_fly U c next (EndEntry d) fly s = subst FlyThere (sym s.after) (ended_fly c d s.export fly)
step_fly U c next IdleEntry fly s = subst FlyThere (sym s) fly
step_fly U c next (EditEntry e) fly s = subst FlyThere (sym s.after) (edited_fly U c e fly s.allowed)

-- an entry that has a step has no fault
pub step_faultless : (U : Unfolding) (c next : Core) (e : EntryValue) → FlyThere c → Step U c e next → fault_of c e ≡ None
step_faultless U c next (BeginEntry d) fly s = rw (s.0, s.1) refl
step_faultless U c next (EndEntry d) fly s = let q = s.flies in let h = fly.there d s.copy q in rw (h, q) refl
step_faultless U c next IdleEntry fly s = refl
step_faultless U c next (EditEntry e) fly s = refl

-- a run with one more step
pub run_snoc : (U : Unfolding) (a b c : Core) (log : List EntryValue) (e : EntryValue) → Run U a log b → Step U b e c → Run U a (log ++ e ∷ []) c
run_snoc U a b c [] e r s = (c, subst (λ (x : Core). Step U x e c) r s, refl)
run_snoc U a b c (x ∷ xs) e r s = (r.0, r.1, run_snoc U r.0 b c xs e r.2 s)

-- the rules of evaluation and its function agree, so the relation and the function of steps do
module _ (U : Unfolding) where
  pub evaluated_rel : (s : Copy) (x : TreeExport) → EvaluatesCopy U s x → evaluated U s ≡ Some x
  evaluated_rel s x h = ap export_from (rule_gives (situation_of U.declared s) h.main)

  pub step_rel : (c next : Core) (e : EntryValue) → FlyThere c → Step U c e next → step U c e ≡ Some next
  step_rel c next (BeginEntry d) fly s = rw (s.0, s.1, s.2) refl
  step_rel c next (EndEntry d) fly s =
      let q = s.flies in let h = fly.there d s.copy q in let x = evaluated_rel s.copy s.export s.evaluates in let n = s.after in rw (h, q, x, n) refl
  step_rel c next IdleEntry fly s = ap Some (sym s)
  step_rel c next (EditEntry e) fly s = let a = s.allowed in rw a (ap Some (sym s.after))

  pub run_rel : (c last : Core) (log : List EntryValue) → FlyThere c → Run U c log last → replay U c log ≡ Some last
  run_rel c last [] fly r = ap Some (sym r)
  run_rel c last (e ∷ es) fly r = let q = step_rel c r.0 e fly r.1 in rw q (run_rel r.0 last es (step_fly U c r.0 e fly r.1) r.2)

  stuck_at : (c before : Core) (front rest : List EntryValue) (e : EntryValue) → FlyThere c → Run U c front before → step U before e ≡ None → replay U c (front ++ e ∷ rest) ≡ None
  stuck_at c before [] rest e fly r q = let p : step U c e ≡ None = subst (λ (x : Core). step U x e ≡ None) r q in ap (λ o. and_replay o (λ next. replay U next rest)) p
  stuck_at c before (x ∷ xs) rest e fly r q = let p = step_rel c r.0 x fly r.1 in rw p (stuck_at r.0 before xs rest e (step_fly U c r.0 x fly r.1) r.2 q)

  -- an entry with a fault has no step
  pub fault_stuck : (c : Core) (e : EntryValue) (why : StepFault) → fault_of c e ≡ Some why → step U c e ≡ None
  fault_stuck c e why q = ap (λ f. unless f (unless (net_fault_of c e) (step_of U c e))) q

  pub net_fault_stuck : (c : Core) (e : EntryValue) (why : NetFault) → net_fault_of c e ≡ Some why → step U c e ≡ None
  net_fault_stuck c (BeginEntry d) why q = absurd cc
  net_fault_stuck c (EndEntry d) why q = absurd cc
  net_fault_stuck c IdleEntry why q = absurd cc
  net_fault_stuck c (EditEntry e) why q = ap (λ f. unless f (Some (edited U c e))) q

  -- a log with an entry that has no step leads to no core
  pub fails_none : (c : Core) (log : List EntryValue) (i : ℕ) (refused : Core → EntryValue → Type 0) → ((k : Core) (e : EntryValue) → refused k e → step U k e ≡ None) → FlyThere c → FailsAt U c log i refused
      → replay U c log ≡ None
  fails_none c log i refused no_step fly f = let q = f.cut in rw q (stuck_at c f.before f.front f.rest f.entry fly f.runs (no_step f.before f.entry f.refuses))

  from_outcome : (s : Copy) (x : TreeExport) (o : Outcome) → eval_of (situation_of U.declared s) 0 U.main [] (env_of s) ≡ o → export_from o ≡ Some x → EvaluatesCopy U s x
  from_outcome s x None p q = absurd cc
  from_outcome s x (Some (ValueField es, tree)) p q = absurd cc
  from_outcome s x (Some (ValueLocal v, tree)) p q = let y : TreeExport = record { value = v; tree = tree } in let r : y ≡ x = cc in subst (EvaluatesCopy U s) r (record { main = gives_rule (situation_of U.declared s) 0 U.main [] (env_of s) (ValueLocal v) tree p })

  pub evaluated_is : (s : Copy) (x : TreeExport) → evaluated U s ≡ Some x → EvaluatesCopy U s x
  evaluated_is s x q = from_outcome s x (eval_of (situation_of U.declared s) 0 U.main [] (env_of s)) refl q

  begin_is : (c next : Core) (d : ℕ) (b : Bool) (o : Option Copy) → lives c.net d ≡ b → c.flying d ≡ o → unless (begin_fault b o) (Some (begun c.exports c d)) ≡ Some next → Step U c (BeginEntry d) next
  begin_is c next d false o p r q = absurd cc
  begin_is c next d true (Some s) p r q = absurd cc
  begin_is c next d true None p r q = (p, r, cc)

  flown_is : (c next : Core) (d : ℕ) (s : Copy) (x : Option TreeExport) → c.flying d ≡ Some s → evaluated U s ≡ x → flown x c d ≡ Some next → Ends U c d next
  flown_is c next d s None p r q = absurd cc
  flown_is c next d s (Some x) p r q = record { copy = s; export = x; flies = p; evaluates = evaluated_is s x r; after = cc }

  end_is : (c next : Core) (d : ℕ) (b : Bool) (o : Option Copy) → c.flying d ≡ o → unless (end_fault b o) (landed U o c d) ≡ Some next → Step U c (EndEntry d) next
  end_is c next d false o r q = absurd cc
  end_is c next d true None r q = absurd cc
  end_is c next d true (Some s) r q = flown_is c next d s (evaluated U s) r refl q

  edit_is : (c next : Core) (e : EditValue) (o : Option NetFault) → EntryFits U (EditEntry e) → edit_fault c e ≡ o → unless o (Some (edited U c e)) ≡ Some next → Edits U c e next
  edit_is c next e (Some f) fits p q = absurd cc
  edit_is c next e None fits p q = record { fits = fits; allowed = p; after = cc }

  pub step_is : (c next : Core) (e : EntryValue) → EntryFits U e → step U c e ≡ Some next → Step U c e next
  step_is c next (BeginEntry d) fits q = begin_is c next d (lives c.net d) (c.flying d) refl refl q
  step_is c next (EndEntry d) fits q = end_is c next d (lives c.net d) (c.flying d) refl q
  step_is c next IdleEntry fits q = cc
  step_is c next (EditEntry e) fits q = edit_is c next e (edit_fault c e) fits refl q

  pub run_is : (c last : Core) (log : List EntryValue) → LogFits U log → replay U c log ≡ Some last → Run U c log last
  run_is c last [] fits q = cc
  run_is c last (e ∷ es) fits q = go (step U c e) refl q (λ b. run_is b last es fits.1)
    where
      go : (o : Option Core) → step U c e ≡ o → and_replay o (λ b. replay U b es) ≡ Some last → ((b : Core) → replay U b es ≡ Some last → Run U b es last) → Run U c (e ∷ es) last
      go None p q ih = absurd cc
      go (Some b) p q ih = (b, step_is c b e fits.0 p, ih b q)
