-- Books that grow: parts, rounds, and rounds behind rounds.
use Rattle.std.proofs.Common.{◌≡◌, ℕ, ◌+◌, ◌≤◌, List, [], ◌∷◌, ◌++◌, drop, length, refl, sym, ap, ◌∙◌, subst, arith, zero, suc, true, false}
use Rattle.std.proofs.lemmas.Bool.{eq-eqb}
use Rattle.std.proofs.lemmas.List.{append_assoc, length-map, map-append}
use Rattle.std.proofs.Math.Seq.{drop-append_seam}
use Rattle.fc_nodes.specs.Program.{Program, unfolding_of}
use Rattle.fc_values.specs.Fields.{is_in}
use Rattle.topology.specs.Networks.{Network, NetDevice, Lives, numbers}
use Rattle.firing_core.specs.declared.entries.Entry.{Entry}
use Rattle.firing_core.specs.Entries.{EntryValue, entry_of, entries_of}
use Rattle.firing_core.specs.Cores.{Run}
use Rattle.firing_core.specs.CoreViews.{core_of}
use Rattle.firing_core.specs.Books.{BookValue, AppendsEntry, EndsFlights, ends_of, in_flight}
use Rattle.firing_core.specs.Rounds.{has_edit, is_edit, HasRounds}
use Rattle.firing_core.specs.Stretches.{begins, EachBegins, NoneFlies, RanRounds}
use Rattle.worker_pool.specs.Pacing.{InTurn, IsOrdered}
use Rattle.worker_pool.specs.Rounding.{RanOn, FiredTogether, IsGreatest, Completes}
use Rattle.firing_core.proofs.Cuts.{run_join, plain_net}
use Rattle.worker_pool.proofs.Parts.{plain_join, begins_join, rounds_join}
use Rattle.worker_pool.proofs.InTurn.{append_none, turn_join, turn_ordered}
use Rattle.worker_pool.proofs.PacedRounds.{paced_rounds}

-- a network has a device
pub first_device : (ns : List NetDevice) → 1 ≤ length ns → (d : ℕ) × (is_in d (numbers ns) ≡ true)
first_device [] l = absurd (omega (arith, l))
first_device (n ∷ ns) l = (n.id, rw (eq-eqb n.id n.id refl) refl)

pub ran_none : (old : BookValue) → RanOn old old []
ran_none old = record { program = refl; start = refl; log = append_none (entries_of old.log); leads = refl; plain = refl }

pub ran_more : (a b c : BookValue) (p q : List EntryValue) → RanOn a b p → RanOn b c q → RanOn a c (p ++ q)
ran_more a b c p q f g = record {
  program = g.program ∙ f.program;
  start = g.start ∙ f.start;
  log = g.log ∙ (ap (λ (l : List EntryValue). l ++ q) f.log ∙ append_assoc (entries_of a.log) p q);
  leads = run_join (unfolding_of a.program) (core_of a.core) (core_of b.core) (core_of c.core) p q f.leads
      (subst (λ (z : Program). Run (unfolding_of z) (core_of b.core) q (core_of c.core)) f.program g.leads);
  plain = plain_join p q f.plain g.plain;
}

pub ran_net : (old new : BookValue) (part : List EntryValue) → RanOn old new part → (core_of new.core).net ≡ (core_of old.core).net
ran_net old new part r = plain_net (unfolding_of old.program) (core_of old.core) (core_of new.core) part r.plain r.leads

pub ran_entry : (old new : BookValue) (e : Entry) → AppendsEntry old new e → is_edit (entry_of e) ≡ false → RanOn old new (entry_of e ∷ [])
ran_entry old new e a p = record {
  program = a.program;
  start = a.start;
  log = ap entries_of a.log ∙ map-append entry_of old.log (e ∷ []);
  leads = (core_of new.core, a.step, refl);
  plain = rw p refl;
}

-- ---- flights that are ended

ends_plain : (ds : List ℕ) → has_edit (entries_of (ends_of ds)) ≡ false
ends_plain [] = refl
ends_plain (d ∷ ds) = ends_plain ds

pub ends_begin : (d : ℕ) (ds : List ℕ) → begins d (entries_of (ends_of ds)) ≡ 0
ends_begin d [] = refl
ends_begin d (x ∷ xs) = ends_begin d xs

pub ran_ends : (old new : BookValue) (ds : List ℕ) → EndsFlights old new ds → RanOn old new (entries_of (ends_of ds))
ran_ends old new ds f = record {
  program = f.program;
  start = f.start;
  log = ap entries_of f.log ∙ map-append entry_of old.log (ends_of ds);
  leads = f.run;
  plain = ends_plain ds;
}

-- ---- rounds

-- after pending firings are settled no round has run
pub settled : (old new : BookValue) → EndsFlights old new (in_flight (core_of old.core)) → NoneFlies (core_of new.core) → RanRounds old 0 new
settled old new f n =
    let ds = in_flight (core_of old.core) in
    let r = ran_ends old new ds f in
    record {
      program = r.program;
      start = r.start;
      part = entries_of (ends_of ds);
      log = r.log;
      stretch = record { leads = r.leads; plain = r.plain; begun = λ d l. ends_begin d ds; covers = r.plain; rests = n };
    }

-- what a table adds, since a place that is the end of the old log
behind_together : (n most : ℕ) (old mid : BookValue) (f : FiredTogether most old mid) → n ≡ length old.log → drop n (entries_of mid.log) ≡ f.part
behind_together n most old mid f is = (λ i. drop ((is ∙ sym (length-map old.log entry_of)) i) (f.ran.log i)) ∙ drop-append_seam (entries_of old.log) f.part

pub ordered_together : (n most : ℕ) (old mid : BookValue) → FiredTogether most old mid → n ≡ length old.log → IsOrdered (numbers mid.core.net.devices) (drop n (entries_of mid.log))
ordered_together n most old mid f is =
    subst (λ (z : Network × List EntryValue). IsOrdered (numbers z.0.devices) z.1) (λ i. (sym (ran_net old mid f.part f.ran) i, sym (behind_together n most old mid f is) i))
    (turn_ordered (unfolding_of old.program) (numbers old.core.net.devices) (core_of old.core) (core_of mid.core) f.part f.turns)

-- the greatest number of firings is one that the table allowed
pub some_together : (n most rounds : ℕ) (old mid : BookValue) → FiredTogether most old mid → n ≡ length old.log → 1 ≤ most → IsGreatest mid.core.net (drop n (entries_of mid.log)) rounds → (1 ≤ rounds) × (rounds ≤ most)
some_together n most rounds old mid f is some g = (
  g.some,
  g.least most some (λ d live. subst (λ (l : List EntryValue). begins d l ≤ most) (sym (behind_together n most old mid f is))
      (f.most d (subst (λ (m : Network). Lives m d) (ran_net old mid f.part f.ran) live))),
)

-- what the table and the caller added is that many rounds
pub ran_some : (n most rounds : ℕ) (old mid new : BookValue) → FiredTogether most old mid → n ≡ length old.log → 1 ≤ rounds → Completes n rounds mid new → RanRounds old rounds new
ran_some n most zero old mid new f is some c = absurd (omega (arith, some))
ran_some n most (suc k) old mid new f is some c =
    let part = f.part ++ c.part in
    let U = unfolding_of old.program in
    let ids = numbers old.core.net.devices in
    let net = ran_net old mid f.part f.ran in
    let ran = ran_more old mid new f.part c.part f.ran c.ran in
    let behind : drop n (entries_of new.log) ≡ part =
    (λ i. drop ((is ∙ sym (length-map old.log entry_of)) i) (ran.log i)) ∙ drop-append_seam (entries_of old.log) part in
    let turns : InTurn U ids [] (core_of old.core) part (core_of new.core) = turn_join U ids [] (core_of old.core) (core_of mid.core) (core_of new.core) f.part c.part f.turns
    (subst (λ (z : Program × Network × List EntryValue). InTurn (unfolding_of z.0) (numbers z.1.devices) z.2 (core_of mid.core) c.part (core_of new.core))
    (λ i. (f.ran.program i, net i, behind_together n most old mid f is i)) c.turns) in
    let begun : EachBegins (core_of old.core).net part (suc k) = λ d l.
    sym (ap (begins d) behind) ∙ c.begun d (subst (λ (m : Network). Lives m d) (sym net) l) in
    let first = first_device old.core.net.devices f.network.some in
    record {
      program = ran.program;
      start = ran.start;
      part = part;
      log = ran.log;
      stretch = record {
        leads = ran.leads;
        plain = ran.plain;
        begun = begun;
        covers = paced_rounds U ids first.0 first.1 k (core_of old.core) (core_of new.core) part turns ran.plain begun (λ e i. c.rests e);
        rests = c.rests;
      };
    }

pub rounds_more : (a b c : BookValue) (j k : ℕ) → RanRounds a j b → RanRounds b k c → RanRounds a (j + k) c
rounds_more a b c j k f g =
    let p = f.part in let q = g.part in
    let ran = ran_more a b c p q
    (record { program = f.program; start = f.start; log = f.log; leads = f.stretch.leads; plain = f.stretch.plain })
    (record { program = g.program; start = g.start; log = g.log; leads = g.stretch.leads; plain = g.stretch.plain }) in
    let net : (core_of b.core).net ≡ (core_of a.core).net = plain_net (unfolding_of a.program) (core_of a.core) (core_of b.core) p f.stretch.plain f.stretch.leads in
    record {
      program = ran.program;
      start = ran.start;
      part = p ++ q;
      log = ran.log;
      stretch = record {
        leads = ran.leads;
        plain = ran.plain;
        begun = λ d l. begins_join d p q ∙ (λ i. f.stretch.begun d l i + g.stretch.begun d (subst (λ (n : Network). Lives n d) (sym net) l) i);
        covers = rounds_join (numbers (core_of a.core).net.devices) p q j k f.stretch.covers
            (subst (λ (n : Network). HasRounds (numbers n.devices) q k) net g.stretch.covers);
        rests = g.stretch.rests;
      };
    }
