-- An open begin may end.
use Rattle.std.proofs.Common.{◌≡◌, ℕ, suc, List, ◌∷◌, take, length, refl, sym, ap, ◌∙◌, subst, Option, Some, None}
use Rattle.std.proofs.lemmas.Option.{none-some}
use Rattle.fc_values.specs.Trees.{Copy}
use Rattle.value_trees.specs.declared.copies.Snap.{Snap}
use Rattle.value_trees.specs.Snaps.{snap_copy}
use Rattle.firing_core.specs.declared.entries.StepFault.{StepFault}
use Rattle.firing_core.specs.declared.entries.StepFault.TheVariants as fault
use Rattle.fc_nodes.specs.Program.{Unfolding, unfolding_of}
use Rattle.topology.specs.Networks.{Lives}
use Rattle.turn_lock.specs.Logs.{IsUnanswered}
use Rattle.firing_core.specs.Entries.{EntryValue, BeginEntry, EndEntry}
use Rattle.firing_core.specs.Cores.{Core, Run, IsGood}
use Rattle.firing_core.specs.CoreViews.{core_of}
use Rattle.firing_core.specs.Books.{IsBook, HasFault}
use Rattle.firing_core.specs.Replays.{fault_of, begin_fault, end_fault}
use Rattle.firing_core.specs.Laws.{FlightsStay, RunsCut}
use Rattle.export_table.specs.Items.{items_of}
use Rattle.export_table.specs.Answers.{answers}
use Rattle.export_table.specs.Holding.{HeldValue, IsOpenAt, IsTakenAt, opening_in, log_in, core_in}
use Rattle.export_table.proofs.Flying.{cut_at, take_all, open_flies}

copy_or : Copy → Option Copy → Copy
copy_or s None = s
copy_or s (Some t) = t

pub same_copy : (s t : Copy) → Some s ≡ Some t → s ≡ t
unfolding copy_or
same_copy s t e = ap (copy_or s) e

pub flies_now : (h : HeldValue) → IsBook h.book → FlightsStay → RunsCut → (place : ℕ) (s : Copy) → IsOpenAt h place s.device → IsTakenAt (opening_in h) (log_in h) place s → (core_in h).flying s.device ≡ Some s
flies_now h book flights cuts place s opened taken =
    let t = cut_at (log_in h) place (BeginEntry s.device) opened.began in
    let front = t.0 in
    let here : take place (log_in h) ≡ front = ap (λ k. take k (log_in h)) (sym t.3) ∙ (ap (take (length front)) t.2 ∙ take_all front (BeginEntry s.device ∷ t.1)) in
    open_flies (unfolding_of h.book.program) (opening_in h) (core_of h.book.start) (core_in h) book.good flights cuts front taken.core
    (subst (λ l. Run (unfolding_of h.book.program) (core_of h.book.start) l taken.core) here taken.leads) s.device t.1
    (subst (λ (z : List EntryValue × ℕ). IsUnanswered answers (items_of (opening_in h) z.0) (suc z.1)) (λ i. (t.2 i, sym t.3 i)) opened.unanswered)
    (subst (λ l. Run (unfolding_of h.book.program) (core_of h.book.start) l (core_in h)) t.2 book.runs)
    ∙ ap Some (sym taken.copy)

-- a device in flight may end
pub may_end : (U : Unfolding) (c : Core) (d : ℕ) (s : Copy) → IsGood U c → c.flying d ≡ Some s → (Lives c.net d) × (fault_of c (EndEntry d) ≡ None)
may_end U c d s good flies = let there = (good.flying d s flies).there in (there, λ i. end_fault (there i) (flies i))

-- the same, as a caller says it
pub flies_at : (h z : HeldValue) → h ≡ z → IsBook h.book → FlightsStay → RunsCut → (place : ℕ) (f : Snap) → IsOpenAt z place f.device → IsTakenAt (opening_in z) (log_in z) place (snap_copy (unfolding_of z.book.program) f)
    → (core_in h).flying f.device ≡ Some (snap_copy (unfolding_of h.book.program) f)
flies_at h z e book flights cuts place f opened taken = flies_now h book flights cuts place (snap_copy (unfolding_of h.book.program) f) (subst (λ (y : HeldValue). IsOpenAt y place f.device) (sym e) opened)
    (subst (λ (y : HeldValue). IsTakenAt (opening_in y) (log_in y) place (snap_copy (unfolding_of y.book.program) f)) (sym e) taken)

pub no_fault : (U : Unfolding) (c : Core) (d : ℕ) (s : Copy) (f : StepFault) → IsGood U c → c.flying d ≡ Some s → fault_of c (EndEntry d) ≡ Some f → ⊥
no_fault U c d s f good flies is = none-some f (sym (may_end U c d s good flies).1 ∙ is)

-- a device that may begin has no fault
begins_now : (c : Core) (d : ℕ) (f : StepFault) → Lives c.net d → c.flying d ≡ None → fault_of c (BeginEntry d) ≡ Some f → ⊥
begins_now c d f there rests is = none-some f ((λ i. begin_fault (sym there i) (sym rests i)) ∙ is)

-- but want of memory
pub may_begin_now : (c : Core) (d : ℕ) (f : StepFault) → Lives c.net d → c.flying d ≡ None → (f ≡ fault.Memory → ⊥) → HasFault c (BeginEntry d) f → ⊥
may_begin_now c d fault.NoDevice there rests other is = begins_now c d fault.NoDevice there rests is
may_begin_now c d fault.Flying there rests other is = begins_now c d fault.Flying there rests is
may_begin_now c d fault.NotFlying there rests other is = begins_now c d fault.NotFlying there rests is
may_begin_now c d fault.Memory there rests other is = other refl
