-- A log, replayed entry by entry.
use Rattle.std.proofs.Common.{◌≡◌, ℕ, zero, suc, ◌<◌, List, [], ◌∷◌, ◌++◌, length, take, drop, get_or, sym, ◌∙◌, ap, subst, arith, Some}
use Rattle.std.proofs.lemmas.List.{map-append, length-map, length-take-le, take-append-drop}
use Rattle.std.proofs.Math.Seq.{take-suc, drop-cons}
use Rattle.fc_nodes.specs.Program.{Program, Unfolding, unfolding_of}
use Rattle.firing_core.specs.declared.entries.Entry.{Entry}
use Rattle.firing_core.specs.declared.entries.ReplayFault.{ReplayFault}
use Rattle.firing_core.specs.declared.entries.ReplayFault.TheVariants as replay_fault
use Rattle.firing_core.specs.Entries.{EntryValue, entry_of, entries_of}
use Rattle.firing_core.specs.Cores.{Core, Step, Run, IsGood}
use Rattle.firing_core.specs.CoreViews.{CoreValue, core_of, program_of, IsCore}
use Rattle.firing_core.specs.Replays.{EntryFits, LogFits, FailsAt, fault_of, net_fault_of, replay}
use Rattle.firing_core.specs.Books.{IsBook, RefusesAt, FailsReplay, IsStuckReplay}
use Rattle.firing_core.proofs.Views.{good_of}
use Rattle.firing_core.proofs.Settling.{take_whole}
use Rattle.firing_core.proofs.Steps.{good_fly, run_snoc, run_rel, fails_none, fault_stuck, net_fault_stuck}

-- the core to which the first entries of a log lead
pub record ReplayedTo (p : Program) (start : CoreValue) (log : List Entry) (i : ℕ) (c : CoreValue) : Type 0 where
  pub program : c.program ≡ p
  pub runs : Run (unfolding_of p) (core_of start) (entries_of (take i log)) (core_of c)

pub fits_at : (U : Unfolding) (log : List Entry) (i : ℕ) (e : Entry) → LogFits U (entries_of log) → i < length log → e ≡ get_or log i e → EntryFits U (entry_of e)
fits_at U [] i e f h q = absurd (omega arith)
fits_at U (x ∷ xs) zero e f h q = subst (λ (y : Entry). EntryFits U (entry_of y)) (sym q) f.0
fits_at U (x ∷ xs) (suc i) e f h q = fits_at U xs i e f.1 (omega arith) q

module _ {p : Program} {start : CoreValue} {log : List Entry} {i : ℕ} {c : CoreValue} (e : Entry) (h : i < length log) (is : e ≡ get_or log i e) (r : ReplayedTo p start log i c) where
  longer : entries_of (take (suc i) log) ≡ entries_of (take i log) ++ entry_of e ∷ []
  longer = ap entries_of (take-suc log i e h ∙ ap (λ (x : Entry). take i log ++ x ∷ []) (sym is)) ∙ map-append entry_of (take i log) (e ∷ [])

  pub replayed_more : (j : ℕ) (next : CoreValue) → j ≡ suc i → next.program ≡ c.program → Step (program_of c) (core_of c) (entry_of e) (core_of next) → ReplayedTo p start log j next
  replayed_more j next q same step = subst (λ (k : ℕ). ReplayedTo p start log k next) (sym q) (record {
    program = same ∙ r.program;
    runs = subst (λ (l : List EntryValue). Run (unfolding_of p) (core_of start) l (core_of next)) (sym longer)
        (run_snoc (unfolding_of p) (core_of start) (core_of c) (core_of next) (entries_of (take i log)) (entry_of e) r.runs
        (subst (λ (s : Program). Step (unfolding_of s) (core_of c) (entry_of e) (core_of next)) r.program step));
  })

  cut_here : entries_of log ≡ entries_of (take i log) ++ entry_of e ∷ entries_of (drop (suc i) log)
  cut_here =
      ap entries_of (sym (take-append-drop i log) ∙ ap (λ (l : List Entry). take i log ++ l) (drop-cons log i e h ∙ ap (λ (x : Entry). x ∷ drop (suc i) log) (sym is)))
      ∙ map-append entry_of (take i log) (e ∷ drop (suc i) log)

  long : length (entries_of (take i log)) ≡ i
  long = length-map (take i log) entry_of ∙ length-take-le i log (omega arith)

  fails : (k : ℕ) (refused : Core → EntryValue → Type 0) → k ≡ i → refused (core_of c) (entry_of e) → FailsAt (unfolding_of p) (core_of start) (entries_of log) k refused
  fails k refused place w = record {
    front = entries_of (take i log);
    entry = entry_of e;
    rest = entries_of (drop (suc i) log);
    cut = cut_here;
    place = place ∙ sym long;
    before = core_of c;
    runs = r.runs;
    refuses = w;
  }

  -- the entry that is refused is the first that has no step
  pub replay_fails : (f : ReplayFault) → RefusesAt i (core_of c) (entry_of e) f → FailsReplay (unfolding_of p) (core_of start) (entries_of log) f
  replay_fails replay_fault.Memory w = tt
  replay_fails (replay_fault.At k why) w = fails k (λ k e. fault_of k e ≡ Some why) w.0 w.1
  replay_fails (replay_fault.EditAt k why) w = fails k (λ k e. net_fault_of k e ≡ Some why) w.0 w.1

  -- so the log leads to no core
  pub replay_stuck : IsGood (unfolding_of p) (core_of start) → (f : ReplayFault) → RefusesAt i (core_of c) (entry_of e) f → IsStuckReplay (unfolding_of p) (core_of start) (entries_of log) f
  replay_stuck good replay_fault.Memory w = tt
  replay_stuck good (replay_fault.At k why) w =
      fails_none (unfolding_of p) (core_of start) (entries_of log) k (λ k e. fault_of k e ≡ Some why) (λ c e q. fault_stuck (unfolding_of p) c e why q) (good_fly (unfolding_of p) (core_of start) good) (replay_fails (replay_fault.At k why) w)
  replay_stuck good (replay_fault.EditAt k why) w =
      fails_none (unfolding_of p) (core_of start) (entries_of log) k (λ k e. net_fault_of k e ≡ Some why) (λ c e q. net_fault_stuck (unfolding_of p) c e why q) (good_fly (unfolding_of p) (core_of start) good) (replay_fails (replay_fault.EditAt k why) w)

-- ---- where the whole log is read

module _ {p : Program} {start : CoreValue} {log : List Entry} {i : ℕ} {c : CoreValue} (whole : i ≡ length log) (r : ReplayedTo p start log i c) where
  all_read : entries_of (take i log) ≡ entries_of log
  all_read = ap entries_of (take_whole i log whole)

  runs_all : Run (unfolding_of p) (core_of start) (entries_of log) (core_of c)
  runs_all = subst (λ (l : List EntryValue). Run (unfolding_of p) (core_of start) l (core_of c)) all_read r.runs

  pub replays : IsGood (unfolding_of p) (core_of start) → replay (unfolding_of p) (core_of start) (entries_of log) ≡ Some (core_of c)
  replays good = run_rel (unfolding_of p) (core_of start) (core_of c) (entries_of log) (good_fly (unfolding_of p) (core_of start) good) runs_all

  -- the book of a copy of the start
  pub replayed_book : (q : Program) (copied : CoreValue) (spare : ℕ) → q ≡ p → copied.program ≡ p → IsCore copied → core_of copied ≡ core_of start → IsBook (record { program = q; start = copied; log = log; core = c; spare = spare })
  replayed_book q copied spare is same kept copy = subst (λ (s : Program). IsBook (record { program = s; start = copied; log = log; core = c; spare = spare })) (sym is) (record {
    started = same;
    held = r.program;
    good = subst (λ (s : Program). IsGood (unfolding_of s) (core_of copied)) same (good_of copied kept);
    runs = subst (λ (k : Core). Run (unfolding_of p) k (entries_of log) (core_of c)) (sym copy) runs_all;
  })

-- a copy of the start is good, and so is the start
pub start_good : (p : Program) (start copied : CoreValue) → copied.program ≡ p → IsCore copied → core_of copied ≡ core_of start → IsGood (unfolding_of p) (core_of start)
start_good p start copied same kept copy =
    subst (λ (k : Core). IsGood (unfolding_of p) k) copy (subst (λ (s : Program). IsGood (unfolding_of s) (core_of copied)) same (good_of copied kept))
