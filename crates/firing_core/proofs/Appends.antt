-- Books without entries, and with one more.
use Rattle.std.proofs.Common.{◌≡◌, ◌↔◌, ℕ, List, [], ◌∷◌, ◌++◌, length, refl, sym, ◌∙◌, ap, subst, Result, Ok, Err, IfErr, OnOk, IsErrOf, Option}
use Rattle.firing_core.specs.declared.entries.StepFault.{StepFault}
use Rattle.firing_core.specs.declared.entries.StepFault.TheVariants as fault
use Rattle.firing_core.specs.declared.entries.ReplayFault.{ReplayFault}
use Rattle.firing_core.specs.declared.entries.ReplayFault.TheVariants as replay_fault
use Rattle.firing_core.specs.Replays.{fault_of, net_fault_of}
use Rattle.std.specs.Prelude.{Some}
use Rattle.fc_values.specs.Trees.{Copy}
use Rattle.fc_nodes.specs.Program.{Program, unfolding_of}
use Rattle.value_trees.specs.declared.copies.Snap.{Snap}
use Rattle.value_trees.specs.Snaps.{snap_copy}
use Rattle.firing_core.specs.declared.entries.Entry.{Entry}
use Rattle.std.proofs.lemmas.List.{map-append}
use Rattle.firing_core.specs.Entries.{EntryValue, entry_of, entries_of}
use Rattle.firing_core.specs.Cores.{Core, Step, Run, IsGood}
use Rattle.firing_core.specs.CoreViews.{CoreValue, IsCore, core_of, program_of}
use Rattle.firing_core.specs.Books.{BookValue, IsBook, IsSameBook, AppendsEntry, HasFault, RefusesAt, RefusesEntry, AtIndex}
use Rattle.firing_core.proofs.Views.{good_of}
use Rattle.firing_core.proofs.Steps.{run_snoc}

-- a copy of a core as the start, and no entry yet
pub fresh_book : (p : Program) (start core : CoreValue) (log : List Entry) (spare : ℕ) → p ≡ core.program → IsCore start → start.program ≡ core.program → core_of start ≡ core_of core → log ≡ []
    → IsBook (record { program = p; start = start; log = log; core = core; spare = spare })
fresh_book p start core log spare same k program copied q = record {
  started = program ∙ sym same;
  held = sym same;
  good = subst (λ (r : Program). IsGood (unfolding_of r) (core_of start)) (program ∙ sym same) (good_of start k);
  runs = subst (λ (l : List Entry). Run (unfolding_of p) (core_of start) (entries_of l) (core_of core)) (sym q) (sym copied);
}

-- the book's program is its core's
step_of_book : (b : BookValue) (next : CoreValue) (e : EntryValue) → IsBook b → Step (program_of b.core) (core_of b.core) e (core_of next) → Step (unfolding_of b.program) (core_of b.core) e (core_of next)
step_of_book b next e k s = subst (λ (p : Program). Step (unfolding_of p) (core_of b.core) e (core_of next)) k.held s

-- a step of the core, and its entry at the end of the log
pub still_book : (b : BookValue) (next : CoreValue) (longer : List Entry) (spare : ℕ) (e : Entry) → IsBook b → next.program ≡ b.core.program → Step (program_of b.core) (core_of b.core) (entry_of e) (core_of next) → longer ≡ b.log ++ e ∷ []
    → IsBook (record { program = b.program; start = b.start; log = longer; core = next; spare = spare })
still_book b next longer spare e k same s q = record {
  started = k.started;
  held = same ∙ k.held;
  good = k.good;
  runs = subst (λ (l : List EntryValue). Run (unfolding_of b.program) (core_of b.start) l (core_of next)) (sym (ap entries_of q ∙ map-append entry_of b.log (e ∷ [])))
      (run_snoc (unfolding_of b.program) (core_of b.start) (core_of b.core) (core_of next) (entries_of b.log) (entry_of e) k.runs (step_of_book b next (entry_of e) k s));
}

pub appends : {b old new : BookValue} (e : Entry) → IsBook b → b ≡ old → new.program ≡ b.program → new.start ≡ b.start → new.log ≡ b.log ++ e ∷ [] → Step (program_of b.core) (core_of b.core) (entry_of e) (core_of new.core) → AppendsEntry old new e
appends {b} {old} {new} e k same program start log s =
    subst (λ (o : BookValue). AppendsEntry o new e) same (record { program = program; start = start; log = log; step = step_of_book b new.core (entry_of e) k s })

-- what is said of a flight by the book's program is said of it by its core's
pub flight_of : {b old : BookValue} (d : ℕ) (x : Snap) → IsBook b → b ≡ old → ((s : Copy) → (core_of old.core).flying d ≡ Some s → s ≡ snap_copy (unfolding_of old.program) x)
    → (s : Copy) → (core_of b.core).flying d ≡ Some s → s ≡ snap_copy (program_of b.core) x
flight_of {b} {old} d x k same h s q =
    let h' : s ≡ snap_copy (unfolding_of b.program) x = subst (λ (o : BookValue). (core_of o.core).flying d ≡ Some s → s ≡ snap_copy (unfolding_of o.program) x) (sym same) (h s) q in
    subst (λ (p : Program). s ≡ snap_copy (unfolding_of p) x) (sym k.held) h'

-- an entry after more room was taken
pub appends_after : {old book new : BookValue} (e : Entry) → IsSameBook old book → AppendsEntry book new e → AppendsEntry old new e
appends_after {old} {book} {new} e s a = record {
  program = a.program ∙ s.program;
  start = a.start ∙ s.start;
  log = a.log ∙ ap (λ (l : List Entry). l ++ e ∷ []) s.log;
  step = subst (λ (c : CoreValue). Step (unfolding_of old.program) (core_of c) (entry_of e) (core_of new.core)) s.core (subst (λ (p : Program). Step (unfolding_of p) (core_of book.core) (entry_of e) (core_of new.core)) s.program a.step);
}

-- ---- refusals

pub end_refused : (c : Core) (e : EntryValue) (r : Result (Unit {0}) StepFault) (why : StepFault) → IfErr r (HasFault c e) → r ≡ Err why → (why ≡ fault.Memory → ⊥) → fault_of c e ≡ Some why
end_refused c e r why h q u = by_fault why (rw q at h) u
  where
    by_fault : (f : StepFault) → HasFault c e f → (f ≡ fault.Memory → ⊥) → fault_of c e ≡ Some f
    by_fault fault.NoDevice k u = k
    by_fault fault.Flying k u = k
    by_fault fault.NotFlying k u = k
    by_fault fault.Memory k u = absurd (u refl)

pub begin_refused : (o : Option StepFault) (r : Result (Unit {0}) StepFault) (why : StepFault) → (IsErrOf r fault.NoDevice ↔ (o ≡ Some fault.NoDevice)) → (IsErrOf r fault.Flying ↔ (o ≡ Some fault.Flying)) → (IsErrOf r fault.NotFlying → ⊥)
    → r ≡ Err why → (why ≡ fault.Memory → ⊥) → o ≡ Some why
begin_refused o r fault.NoDevice a b n q u = a.0 q
begin_refused o r fault.Flying a b n q u = b.0 q
begin_refused o r fault.NotFlying a b n q u = absurd (n q)
begin_refused o r fault.Memory a b n q u = absurd (u refl)

-- the answer at an index refuses the entry
pub at_index_refuses : (c : Core) (e : EntryValue) (i : ℕ) (r : Result (Unit {0}) StepFault) (f : ReplayFault) → ((why : StepFault) → r ≡ Err why → (why ≡ fault.Memory → ⊥) → fault_of c e ≡ Some why)
    → AtIndex i r f → RefusesAt i c e f
at_index_refuses c e i r (replay_fault.At index why) k w = (w.0, k why w.1 w.2)
at_index_refuses c e i r (replay_fault.EditAt index why) k w = absurd w
at_index_refuses c e i r replay_fault.Memory k w = tt

pub refuses_after : (old mid : BookValue) (e : EntryValue) (f : ReplayFault) → IsSameBook old mid → RefusesEntry mid e f → RefusesEntry old e f
refuses_after old mid e (replay_fault.At index why) s w = (w.0 ∙ ap length s.log, subst (λ (c : CoreValue). fault_of (core_of c) e ≡ Some why) s.core w.1)
refuses_after old mid e (replay_fault.EditAt index why) s w = (w.0 ∙ ap length s.log, subst (λ (c : CoreValue). net_fault_of (core_of c) e ≡ Some why) s.core w.1)
refuses_after old mid e replay_fault.Memory s w = tt

pub ok_map : {A E : Type 0} {P Q : Type 0} (r : Result A E) → (P → Q) → OnOk r P → OnOk r Q
ok_map (Ok x) f h = f h
ok_map (Err x) f h = tt

pub err_map : {A E : Type 0} {P Q : E → Type 0} (r : Result A E) → ((e : E) → P e → Q e) → IfErr r P → IfErr r Q
err_map (Ok x) f h = tt
err_map (Err x) f h = f x h
