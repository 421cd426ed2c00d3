-- A copy in flight is the one that was taken at its begin.
use Rattle.std.proofs.Common.{◌≡◌, ℕ, inl, inr, List, [], ◌∷◌, ◌++◌, sym, ◌∙◌, ap, subst, true, Some, None}
use Rattle.fc_values.specs.Trees.{Copy}
use Rattle.fc_nodes.specs.Program.{Unfolding}
use Rattle.topology.specs.Networks.{lives}
use Rattle.topology.proofs.Lemmas.{can_join}
use Rattle.firing_core.specs.Entries.{EditValue, LinkEdit, UnlinkEdit, SetEdit, PokeEdit, JoinEdit, LeaveEdit, EntryValue, BeginEntry, EndEntry, IdleEntry, EditEntry}
use Rattle.firing_core.specs.Cores.{Core, copy_of, edited, edit_fault, Step, Run, IsGood}
use Rattle.firing_core.specs.Rounds.{HasEnd}
use Rattle.firing_core.specs.Replays.{replay}
use Rattle.firing_core.proofs.Maps.{put_same, put_other}
use Rattle.firing_core.proofs.Cuts.{run_cut}
use Rattle.firing_core.proofs.Steps.{FlyThere, good_fly, step_fly, run_rel}

-- a log leads to one core
pub run_only : (U : Unfolding) (c a b : Core) (log : List EntryValue) → IsGood U c → Run U c log a → Run U c log b → a ≡ b
run_only U c a b log good r s =
    let p : replay U c log ≡ Some a = run_rel U c a log (good_fly U c good) r in
    let q : replay U c log ≡ Some b = run_rel U c b log (good_fly U c good) s in
    cc

run_fly : (U : Unfolding) (c last : Core) (log : List EntryValue) → FlyThere c → Run U c log last → FlyThere last
run_fly U c last [] fly r = subst FlyThere (sym r) fly
run_fly U c last (e ∷ es) fly r = run_fly U r.0 last es (step_fly U c r.0 e fly r.1) r.2

-- other entries leave a copy in flight
edit_stays : (U : Unfolding) (c : Core) (e : EditValue) (d : ℕ) (s : Copy) → FlyThere c → edit_fault c e ≡ None → c.flying d ≡ Some s → (edited U c e).flying d ≡ Some s
edit_stays U c (LinkEdit a b w) d s fly q f = f
edit_stays U c (UnlinkEdit a b) d s fly q f = f
edit_stays U c (SetEdit e i v) d s fly q f = f
edit_stays U c (PokeEdit e x) d s fly q f = f
edit_stays U c (JoinEdit x) d s fly q f =
    let n = (can_join c.net x q).new in
    let t = fly.there d s f in
    put_other c.flying x.id d None (λ e. let m : lives c.net x.id ≡ true = subst (λ k. lives c.net k ≡ true) e t in absurd cc) ∙ f
edit_stays U c (LeaveEdit e) d s fly q f = f

step_stays : (U : Unfolding) (c next : Core) (e : EntryValue) (d : ℕ) (s : Copy) → FlyThere c → (e ≡ EndEntry d → ⊥) → Step U c e next → c.flying d ≡ Some s → next.flying d ≡ Some s
step_stays U c next (BeginEntry g) d s fly u h f =
    ap (λ (k : Core). k.flying d) h.2 ∙ put_other c.flying g d _ (λ e. let n = h.1 in let m : c.flying d ≡ None = ap c.flying e ∙ n in absurd cc) ∙ f
step_stays U c next (EndEntry g) d s fly u h f =
    ap (λ (k : Core). k.flying d) h.after ∙ put_other c.flying g d None (λ e. u (ap EndEntry (sym e))) ∙ f
step_stays U c next IdleEntry d s fly u h f = ap (λ (k : Core). k.flying d) h ∙ f
step_stays U c next (EditEntry e) d s fly u h f = ap (λ (k : Core). k.flying d) h.after ∙ edit_stays U c e d s fly h.allowed f

run_stays : (U : Unfolding) (c last : Core) (log : List EntryValue) (d : ℕ) (s : Copy) → FlyThere c → (HasEnd d log → ⊥) → Run U c log last → c.flying d ≡ Some s → last.flying d ≡ Some s
run_stays U c last [] d s fly u r f = ap (λ (k : Core). k.flying d) r ∙ f
run_stays U c last (e ∷ es) d s fly u r f =
    run_stays U r.0 last es d s (step_fly U c r.0 e fly r.1) (λ h. u (inr h)) r.2 (step_stays U c r.0 e d s fly (λ q. u (inl q)) r.1 f)

-- the copy that a begin took flies until the device ends
pub flight_taken : (U : Unfolding) (c before last : Core) (front rest : List EntryValue) (d : ℕ) → IsGood U c → Run U c front before → Run U c (front ++ BeginEntry d ∷ rest) last → (HasEnd d rest → ⊥)
    → last.flying d ≡ Some (copy_of before.net before.exports d)
flight_taken U c before last front rest d good r run u =
    let k = run_cut U c last front (BeginEntry d ∷ rest) run in
    let same : k.middle ≡ before = run_only U c k.middle before front good k.first r in
    let tail : Run U before (BeginEntry d ∷ rest) last = subst (λ (m : Core). Run U m (BeginEntry d ∷ rest) last) same k.second in
    let step = tail.1 in
    let taken : (tail.0).flying d ≡ Some (copy_of before.net before.exports d) = ap (λ (m : Core). m.flying d) step.2 ∙ put_same before.flying d (Some (copy_of before.net before.exports d)) in
    run_stays U tail.0 last rest d (copy_of before.net before.exports d) (step_fly U before tail.0 (BeginEntry d) (run_fly U c before front (good_fly U c good) r) step) u tail.2 taken
