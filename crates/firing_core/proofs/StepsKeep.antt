-- Steps keep a core good.
use Rattle.std.proofs.Common.{◌≡◌, ◌↔◌, ℕ, List, [], ◌∷◌, refl, sym, ◌∙◌, ap, subst, Bool, true, false, not, if◌then◌else◌, nat_eq, Option, Some, None}
use Rattle.std.proofs.lemmas.Bool.{eqb-false}
use Rattle.topology.specs.declared.types.NetFault.TheVariants as net_fault
use Rattle.fc_values.specs.Trees.{TreeExport, Copy}
use Rattle.fc_nodes.specs.Program.{Program, Unfolding, unfolding_of, IsProgram}
use Rattle.fc_nodes.specs.Flat.{IsWellTyped, tree_export}
use Rattle.value_trees.specs.Copies.{FitsCopy}
use Rattle.device_eval.specs.Copies.{HasOneExport}
use Rattle.device_eval.proofs.OneExport.{program_export}
use Rattle.topology.specs.Networks.{numbers, lives, Lives, IsNetwork}
use Rattle.fc_values.specs.Fields.{is_in}
use Rattle.topology.specs.Changes.{insert_device}
use Rattle.topology.proofs.Lemmas.{put_numbers, insert_in}
use Rattle.topology.proofs.Lemmas.{linked_network, unlinked_network, input_network, set_none, joined_network, left_network}
use Rattle.firing_core.specs.Entries.{EditValue, LinkEdit, UnlinkEdit, SetEdit, PokeEdit, JoinEdit, LeaveEdit, EntryValue, BeginEntry, EndEntry, IdleEntry, EditEntry}
use Rattle.firing_core.specs.Cores.{Core, copy_of, begun, ended, Ends, EditFits, edit_fault, edited, Step, Run, GoodExport, GoodFlight, IsGood}
use Rattle.firing_core.proofs.Neighbours.{copy_fits}
use Rattle.fc_values.proofs.Booleans.{or_true}
use Rattle.firing_core.specs.Replays.{begin_fault, end_fault, fault_of, net_fault_of, EntryFits}
use Rattle.firing_core.proofs.Maps.{put_case}
use Rattle.firing_core.proofs.Steps.{good_fly, step_faultless, may_leave, stays}

pub begun_fits : (U : Unfolding) (c : Core) (d : ℕ) → IsGood U c → Lives c.net d → FitsCopy U (copy_of c.net c.exports d)
begun_fits U c d good there = copy_fits U c.net c.exports d good.net good.declared there (λ k x q. (good.exports k x q).typed)

-- the copy that a begin takes is a good flight
taken_good : (U : Unfolding) (c : Core) (d e : ℕ) (s : Copy) → IsGood U c → Lives c.net d → e ≡ d → copy_of c.net c.exports d ≡ s → GoodFlight U c.net e s
taken_good U c d e s good there same taken = record {
  there = subst (λ (k : ℕ). Lives c.net k) (sym same) there;
  names = ap (λ (t : Copy). t.device) (sym taken) ∙ sym same;
  fits = subst (FitsCopy U) taken (begun_fits U c d good there);
}

begun_good : (U : Unfolding) (c : Core) (d : ℕ) → IsGood U c → Lives c.net d → IsGood U (begun c.exports c d)
begun_good U c d good there = record {
  net = good.net;
  declared = good.declared;
  exports = good.exports;
  flying = λ e s. put_case (λ (v : Option Copy). v ≡ Some s → GoodFlight U c.net e s) c.flying d e (Some (copy_of c.net c.exports d))
      (λ same q. let taken : copy_of c.net c.exports d ≡ s = cc in taken_good U c d e s good there same taken) (good.flying e s);
}

-- the export of a copy that fits is well-typed
published_good : (P : Program) (c next : Core) (d e : ℕ) (x : TreeExport) (s : Ends (unfolding_of P) c d next) → IsProgram P → IsGood (unfolding_of P) c → e ≡ d → s.export ≡ x → GoodExport (unfolding_of P) c.net e x
published_good P c next d e x s program good same published =
    let flight : GoodFlight (unfolding_of P) c.net d s.copy = good.flying d s.copy s.flies in
    let one : HasOneExport (unfolding_of P) s.copy = program_export P s.copy program flight.fits in
    record {
      there = subst (λ (k : ℕ). Lives c.net k) (sym same) flight.there;
      typed = subst (IsWellTyped (unfolding_of P)) (sym (one.only s.export s.evaluates) ∙ published) one.typed;
    }

ended_good : (P : Program) (c next : Core) (d : ℕ) → IsProgram P → IsGood (unfolding_of P) c → (s : Ends (unfolding_of P) c d next) → IsGood (unfolding_of P) (ended c d s.export)
ended_good P c next d program good s = record {
  net = good.net;
  declared = good.declared;
  exports = λ e x. put_case (λ (v : Option TreeExport). v ≡ Some x → GoodExport (unfolding_of P) c.net e x) c.exports d e (Some s.export)
      (λ same q. let published : s.export ≡ x = cc in published_good P c next d e x s program good same published) (good.exports e x);
  flying = λ e t. put_case (λ (v : Option Copy). v ≡ Some t → GoodFlight (unfolding_of P) c.net e t) c.flying d e None (λ same q. absurd cc) (good.flying e t);
}

-- ---- edits

edited_net : (U : Unfolding) (c : Core) (e : EditValue) → IsNetwork c.net → EditFits U e → edit_fault c e ≡ None → IsNetwork (edited U c e).net
edited_net U c (LinkEdit a b w) net fits q = linked_network c.net a b w net q
edited_net U c (UnlinkEdit a b) net fits q = unlinked_network c.net a b net
edited_net U c (SetEdit d i v) net fits q = input_network c.net d i v net (set_none c.net d i v q).1
edited_net U c (PokeEdit d p) net fits q = net
edited_net U c (JoinEdit y) net fits q = joined_network c.net y net fits q
edited_net U c (LeaveEdit d) net fits q = let m = may_leave c d q in left_network c.net d net (let t = m.there in let n = m.others in rw (t, n) refl)

edited_good : (U : Unfolding) (c : Core) (e : EditValue) → IsGood U c → EditFits U e → edit_fault c e ≡ None → IsGood U (edited U c e)
edited_good U c (LinkEdit a b w) good fits q = record {
  net = edited_net U c (LinkEdit a b w) good.net fits q;
  declared = good.declared;
  exports = λ d x r. let g = good.exports d x r in record { there = g.there; typed = g.typed };
  flying = λ d s r. let g = good.flying d s r in record { there = g.there; names = g.names; fits = g.fits };
}
edited_good U c (UnlinkEdit a b) good fits q = record {
  net = edited_net U c (UnlinkEdit a b) good.net fits q;
  declared = good.declared;
  exports = λ d x r. let g = good.exports d x r in record { there = g.there; typed = g.typed };
  flying = λ d s r. let g = good.flying d s r in record { there = g.there; names = g.names; fits = g.fits };
}
edited_good U c (SetEdit d i v) good fits q = record {
  net = edited_net U c (SetEdit d i v) good.net fits q;
  declared = good.declared;
  exports = λ e x r. let g = good.exports e x r in record { there = ap (is_in e) (put_numbers d i v c.net.devices) ∙ g.there; typed = g.typed };
  flying = λ e s r. let g = good.flying e s r in record { there = ap (is_in e) (put_numbers d i v c.net.devices) ∙ g.there; names = g.names; fits = g.fits };
}
edited_good U c (PokeEdit d p) good fits q = record {
  net = edited_net U c (PokeEdit d p) good.net fits q;
  declared = good.declared;
  exports = λ e x. put_case (λ (v : Option TreeExport). v ≡ Some x → GoodExport U c.net e x) c.exports d e (Some (tree_export U p))
      (λ same r. let poked : tree_export U p ≡ x = cc in record { there = subst (λ (k : ℕ). Lives c.net k) (sym same) (poked_there (lives c.net d) q); typed = subst (IsWellTyped U) poked fits.typed }) (good.exports e x);
  flying = good.flying;
}
  where
    poked_there : (b : Bool) → (if not b then Some net_fault.NoDevice else None) ≡ None → b ≡ true
    poked_there true r = refl
    poked_there false r = absurd cc
edited_good U c (JoinEdit y) good fits q = record {
  net = edited_net U c (JoinEdit y) good.net fits q;
  declared = good.declared;
  exports = λ e x. put_case (λ (v : Option TreeExport). v ≡ Some x → GoodExport U (edited U c (JoinEdit y)).net e x) c.exports y.id e None (λ k r. absurd cc)
      (λ r. let g = good.exports e x r in record { there = more e g.there; typed = g.typed });
  flying = λ e s. put_case (λ (v : Option Copy). v ≡ Some s → GoodFlight U (edited U c (JoinEdit y)).net e s) c.flying y.id e None (λ k r. absurd cc)
      (λ r. let g = good.flying e s r in record { there = more e g.there; names = g.names; fits = g.fits });
}
  where
    more : (e : ℕ) → Lives c.net e → is_in e (numbers (insert_device y c.net.devices)) ≡ true
    more e h = insert_in e y c.net.devices ∙ or_true (nat_eq e y.id) (lives c.net e) h
edited_good U c (LeaveEdit d) good fits q = record {
  net = edited_net U c (LeaveEdit d) good.net fits q;
  declared = good.declared;
  exports = λ e x r. left_export e x (nat_eq e d) refl r;
  flying = λ e s r. let g = good.flying e s r in record { there = stays c d e (λ k. let m = may_leave c d q in let n = m.rests in let f : c.flying d ≡ Some s = ap c.flying k ∙ r in absurd cc) g.there; names = g.names; fits = g.fits };
}
  where
    left_export : (e : ℕ) (x : TreeExport) (b : Bool) → nat_eq e d ≡ b → (if b then None else c.exports e) ≡ Some x → GoodExport U (edited U c (LeaveEdit d)).net e x
    left_export e x true t r = absurd cc
    left_export e x false t r = let g = good.exports e x r in record { there = stays c d e (λ k. eqb-false e d t (sym k)) g.there; typed = g.typed }

pub step_good : (P : Program) (c next : Core) (e : EntryValue) → IsProgram P → IsGood (unfolding_of P) c → Step (unfolding_of P) c e next → IsGood (unfolding_of P) next
step_good P c next (BeginEntry d) program good s = subst (IsGood (unfolding_of P)) (sym s.2) (begun_good (unfolding_of P) c d good s.0)
step_good P c next (EndEntry d) program good s = subst (IsGood (unfolding_of P)) (sym s.after) (ended_good P c next d program good s)
step_good P c next IdleEntry program good s = subst (IsGood (unfolding_of P)) (sym s) good
step_good P c next (EditEntry e) program good s = subst (IsGood (unfolding_of P)) (sym s.after) (edited_good (unfolding_of P) c e good s.fits s.allowed)

-- and the network a network
pub step_net : (U : Unfolding) (c next : Core) (e : EntryValue) → IsNetwork c.net → Step U c e next → IsNetwork next.net
step_net U c next (BeginEntry d) net s = subst (λ (k : Core). IsNetwork k.net) (sym s.2) net
step_net U c next (EndEntry d) net s = subst (λ (k : Core). IsNetwork k.net) (sym s.after) net
step_net U c next IdleEntry net s = subst (λ (k : Core). IsNetwork k.net) (sym s) net
step_net U c next (EditEntry e) net s = subst (λ (k : Core). IsNetwork k.net) (sym s.after) (edited_net U c e net s.fits s.allowed)

pub run_good : (P : Program) (c last : Core) (log : List EntryValue) → IsProgram P → IsGood (unfolding_of P) c → Run (unfolding_of P) c log last → IsGood (unfolding_of P) last
run_good P c last [] program good r = subst (IsGood (unfolding_of P)) (sym r) good
run_good P c last (e ∷ es) program good r =
    run_good P r.0 last es program (step_good P c r.0 e program good r.1) r.2

-- ---- when there is a step

begin_free : (b : Bool) (o : Option Copy) → begin_fault b o ≡ None → (b ≡ true) × (o ≡ None)
begin_free false o q = absurd cc
begin_free true None q = (refl, refl)
begin_free true (Some s) q = absurd cc

record Flight (o : Option Copy) : Type 0 where
  copy : Copy
  is : o ≡ Some copy

end_free : (b : Bool) (o : Option Copy) → end_fault b o ≡ None → Flight o
end_free false o q = absurd cc
end_free true None q = absurd cc
end_free true (Some s) q = record { copy = s; is = refl }

has_step : (P : Program) (c : Core) (e : EntryValue) → IsProgram P → IsGood (unfolding_of P) c → EntryFits (unfolding_of P) e
    → fault_of c e ≡ None → net_fault_of c e ≡ None → (next : Core) × Step (unfolding_of P) c e next
has_step P c (BeginEntry d) program good fits q r =
    let f = begin_free (lives c.net d) (c.flying d) q in
    (begun c.exports c d, (f.0, f.1, refl))
has_step P c (EndEntry d) program good fits q r =
    let f = end_free (lives c.net d) (c.flying d) q in
    let one : HasOneExport (unfolding_of P) f.copy = program_export P f.copy program (good.flying d f.copy f.is).fits in
    (ended c d one.export, record { copy = f.copy; export = one.export; flies = f.is; evaluates = one.evaluates; after = refl })
has_step P c IdleEntry program good fits q r = (c, refl)
has_step P c (EditEntry e) program good fits q r = (edited (unfolding_of P) c e, record { fits = fits; allowed = r; after = refl })

edit_allowed : (U : Unfolding) (c next : Core) (e : EntryValue) → Step U c e next → net_fault_of c e ≡ None
edit_allowed U c next (BeginEntry d) s = refl
edit_allowed U c next (EndEntry d) s = refl
edit_allowed U c next IdleEntry s = refl
edit_allowed U c next (EditEntry e) s = s.allowed

pub step_exactly : (P : Program) (c : Core) (e : EntryValue) → IsProgram P → IsGood (unfolding_of P) c → EntryFits (unfolding_of P) e
    → (((fault_of c e ≡ None) × (net_fault_of c e ≡ None)) ↔ ((next : Core) × Step (unfolding_of P) c e next))
step_exactly P c e program good fits = (
  λ f. has_step P c e program good fits f.0 f.1,
  λ s. (step_faultless (unfolding_of P) c s.0 e (good_fly (unfolding_of P) c good) s.1, edit_allowed (unfolding_of P) c s.0 e s.1),
)
