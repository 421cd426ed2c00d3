-- What a closed table adds to the book that it was opened over.
use Rattle.std.proofs.Common.{◌≡◌, ℕ, ◌<◌, ◌≤◌, List, [], ◌∷◌, ◌++◌, map, drop, length, refl, sym, ap, ◌∙◌, subst, arith, inl, inr, ⊎_elim, Bool, true, false, ◌||◌, nat_eq}
use Rattle.std.proofs.lemmas.Bool.{eqb-true}
use Rattle.std.proofs.lemmas.List.{length-map}
use Rattle.std.proofs.Math.Seq.{drop-append_seam}
use Rattle.fc_values.specs.Fields.{is_in}
use Rattle.fc_nodes.specs.Program.{Program, unfolding_of}
use Rattle.topology.specs.Networks.{Network, NetDevice, IsNetwork, DevicesFit, Lives, numbers}
use Rattle.fc_values.specs.Types.{Declarations}
use Rattle.firing_core.specs.Entries.{EntryValue, entry_of, entries_of}
use Rattle.firing_core.specs.Cores.{Core, Run}
use Rattle.firing_core.specs.CoreViews.{CoreValue, core_of}
use Rattle.firing_core.specs.Books.{BookValue, IsBook}
use Rattle.firing_core.specs.Laws.{LogsLeadToOne}
use Rattle.firing_core.specs.Rounds.{is_edit, has_edit}
use Rattle.firing_core.specs.Stretches.{begins}
use Rattle.turn_lock.specs.Logs.{StartsWith, In}
use Rattle.turn_lock.specs.Passes.{PassView, opened}
use Rattle.atomic_table.specs.Seated.{TableId}
use Rattle.export_table.specs.Items.{Opening}
use Rattle.export_table.specs.Begins.{since_join}
use Rattle.export_table.specs.Holding.{opening_of, BeginsWithin, EachIsNext}
use Rattle.export_table.specs.Turns.{Closes}
use Rattle.worker_pool.specs.Working.{FiredOn}
use Rattle.worker_pool.specs.Rounding.{FiredTogether}
use Rattle.worker_pool.proofs.Parts.{run_cut}
use Rattle.worker_pool.proofs.Passes.{starts_trans}
use Rattle.worker_pool.proofs.Choosing.{plain_calm, none_joins, since_none, book_turns}

-- ---- the entries of a pass

pub plain_entries : (mine : List (ℕ × EntryValue)) → ((p : ℕ) (e : EntryValue) → In (p, e) mine → is_edit e ≡ false) → has_edit (map (λ (z : ℕ × EntryValue). z.1) mine) ≡ false
plain_entries [] f = refl
plain_entries (z ∷ zs) f = rw (f z.0 z.1 (inl refl)) (plain_entries zs (λ p e i. f p e (inr i)))

-- ---- numbers of devices

-- a device that is there has a number that devices may have
number_in : (D : Declarations) (ns : List NetDevice) (d : ℕ) → DevicesFit D ns → is_in d (numbers ns) ≡ true → d < 65536
number_in D [] d f t = absurd cc
number_in D (n ∷ ns) d f t = by_test (nat_eq d n.id) refl t (number_in D ns d f.2)
  where
    by_test : (b : Bool) → nat_eq d n.id ≡ b → (b || is_in d (numbers ns)) ≡ true → (is_in d (numbers ns) ≡ true → d < 65536) → d < 65536
    by_test true q u ih = let e = eqb-true d n.id q in let l = f.0 in omega (arith, e, l)
    by_test false q u ih = ih u

pub live_number : (n : Network) (d : ℕ) → IsNetwork n → Lives n d → d < 65536
live_number n d w t = number_in n.declared n.devices d w.devices t

-- ---- the closed log

-- it is that of the book behind which it was opened, and the entries of the last pass
pub closed_log : (o : Opening) (v : PassView EntryValue) (old new : BookValue) → Closes o v new → o.front ≡ length old.log → StartsWith v.seen (entries_of old.log)
    → entries_of new.log ≡ entries_of old.log ++ map (λ (z : ℕ × EntryValue). z.1) v.mine
closed_log o v old new c front seen =
    let begins = starts_trans (entries_of new.log) v.seen (entries_of old.log) c.begins seen in
    let many : length (entries_of old.log) ≡ o.front = length-map old.log entry_of ∙ sym front in
    let tail : begins.0 ≡ map (λ (z : ℕ × EntryValue). z.1) v.mine =
    sym (drop-append_seam (entries_of old.log) begins.0) ∙ ((λ i. drop (many i) (sym begins.1 i)) ∙ c.whole) in
    begins.1 ∙ ap (λ (l : List EntryValue). entries_of old.log ++ l) tail

-- and it leads from that book's core to the new one
pub closed_run : (o : Opening) (v : PassView EntryValue) (old new : BookValue) (part : List EntryValue) → LogsLeadToOne → IsBook old → IsBook new → o.program ≡ old.program → o.start ≡ old.start → Closes o v new
    → entries_of new.log ≡ entries_of old.log ++ part → Run (unfolding_of old.program) (core_of old.core) part (core_of new.core)
closed_run o v old new part one was is program start c log =
    let U = unfolding_of old.program in
    let whole : Run U (core_of old.start) (entries_of old.log ++ part) (core_of new.core) =
    subst (λ (z : Program × CoreValue × List EntryValue). Run (unfolding_of z.0) (core_of z.1) z.2 (core_of new.core))
    (λ i. ((c.program ∙ program) i, (c.start ∙ start) i, log i)) is.runs in
    let k = run_cut U (core_of old.start) (core_of new.core) (entries_of old.log) part whole in
    let same : k.0 ≡ core_of old.core = one U (core_of old.start) k.0 (core_of old.core) (entries_of old.log) was.good k.1 was.runs in
    subst (λ (m : Core). Run U m part (core_of new.core)) same k.2

-- a table in which workers fired
pub fired_together : (lock : TableId) (rounds turns most : ℕ) (v : PassView EntryValue) (old new : BookValue) → LogsLeadToOne → IsBook old → IsBook new → IsNetwork (core_of old.core).net → rounds ≤ most
    → FiredOn (opened lock (entries_of old.log) turns) v → Closes (opening_of old rounds turns (length old.log)) v new → BeginsWithin (opening_of old rounds turns (length old.log)) (entries_of new.log)
    → EachIsNext (opening_of old rounds turns (length old.log)) (entries_of new.log) → FiredTogether most old new
fired_together lock rounds turns most v old new one was is net few f c within next =
    let o = opening_of old rounds turns (length old.log) in
    let part = map (λ (z : ℕ × EntryValue). z.1) v.mine in
    let log = closed_log o v old new c refl f.begins in
    let plain : has_edit part ≡ false = plain_entries v.mine (λ p e i. ⊎_elim (λ t. absurd t) (λ t. t) (f.plain p e i)) in
    let leads = closed_run o v old new part one was is refl refl c log in
    record {
      network = net;
      part = part;
      ran = record {
        program = c.program;
        start = c.start;
        log = log;
        leads = leads;
        plain = plain;
      };
      turns = book_turns o old new part was refl refl refl next log (plain_calm part plain) leads;
      most = λ d t.
          let b = subst (λ (l : List EntryValue). begins d l ≤ rounds) (since_none d part (none_joins d part (plain_calm part plain)))
          (subst (λ (l : List EntryValue). begins d (since_join d l) ≤ rounds) c.whole (within d (live_number (core_of old.core).net d net t))) in
          omega (arith, b, few);
    }
