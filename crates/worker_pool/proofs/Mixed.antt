-- What a table with an edit, what is fired after it, and the rounds behind it make of a book.
use Rattle.std.proofs.Common.{◌≡◌, ℕ, ◌+◌, ◌≤◌, List, [], ◌∷◌, ◌++◌, drop, length, refl, sym, ap, ◌∙◌, subst, arith, true, Result, Ok, Err, IfOk}
use Rattle.std.proofs.lemmas.List.{append_assoc, length-append, length-map}
use Rattle.std.proofs.Math.Seq.{drop-append_seam}
use Rattle.fc_values.specs.Fields.{is_in}
use Rattle.fc_nodes.specs.Program.{Program, Unfolding, unfolding_of}
use Rattle.topology.specs.Networks.{Network, numbers}
use Rattle.firing_core.specs.Entries.{EditValue, EntryValue, BeginEntry, EditEntry, entry_of, entries_of}
use Rattle.firing_core.specs.Cores.{Run}
use Rattle.firing_core.specs.CoreViews.{core_of}
use Rattle.firing_core.specs.Books.{BookValue, EndsFlights, ends_of}
use Rattle.firing_core.specs.Rounds.{HasRounds}
use Rattle.firing_core.specs.Stretches.{begins, EachBegins, IsSmallest, MixedEdit, RanRounds}
use Rattle.worker_pool.specs.Pacing.{IsOrdered}
use Rattle.worker_pool.specs.Rounding.{RanOn, IsGreatest, Completes}
use Rattle.worker_pool.specs.Mixing.{MixedTogether}
use Rattle.firing_core.proofs.Cuts.{run_join}
use Rattle.worker_pool.proofs.Parts.{plain_join, begins_join, rounds_front}
use Rattle.worker_pool.proofs.Stretching.{ran_ends, ran_net, ends_begin}

behind_mixed : (old new : BookValue) (part : List EntryValue) → entries_of new.log ≡ entries_of old.log ++ part → drop (length old.log) (entries_of new.log) ≡ part
behind_mixed old new part e = (λ i. drop (sym (length-map old.log entry_of) i) (e i)) ∙ drop-append_seam (entries_of old.log) part

pub ordered_mixed : (old new : BookValue) (e : EditValue) → MixedTogether old e new → IsOrdered (numbers new.core.net.devices) (drop (length old.log) (entries_of new.log))
ordered_mixed old new e m = subst (λ (z : List ℕ × List EntryValue). IsOrdered z.0 z.1) (λ i. (sym m.devices i, sym (behind_mixed old new _ m.log) i)) m.ordered

-- one firing is the greatest number
pub one_mixed : (old new : BookValue) (e : EditValue) (rounds : ℕ) → MixedTogether old e new → IsGreatest new.core.net (drop (length old.log) (entries_of new.log)) rounds → rounds ≡ 1
one_mixed old new e rounds m g =
    let least = g.least 1 (omega arith) (λ d live. subst (λ (l : List EntryValue). begins d l ≤ 1) (sym (behind_mixed old new _ m.log)) (m.once d (subst (λ ns. is_in d ns ≡ true) m.devices live))) in
    let some = g.some in
    omega (arith, least, some)

pub front_mixed : (old new : BookValue) (e : EditValue) → MixedTogether old e new → length old.log ≤ length new.log
front_mixed old new e m =
    let a = sym (length-map new.log entry_of) ∙ (ap length m.log ∙ length-append (entries_of old.log) _) in
    let k = length-map old.log entry_of in
    omega (arith, a, k)

glue : (A M P Q R : List EntryValue) (x y : EntryValue) → (A ++ (x ∷ M ++ y ∷ P)) ++ (Q ++ R) ≡ A ++ x ∷ M ++ y ∷ ((P ++ Q) ++ R)
glue [] M P Q R x y = ap (λ (l : List EntryValue). x ∷ l) (inner M)
  where
    inner : (M : List EntryValue) → (M ++ y ∷ P) ++ (Q ++ R) ≡ M ++ y ∷ ((P ++ Q) ++ R)
    inner [] = ap (λ (l : List EntryValue). y ∷ l) (sym (append_assoc P Q R))
    inner (m ∷ ms) = ap (λ (l : List EntryValue). m ∷ l) (inner ms)
glue (a ∷ more) M P Q R x y = ap (λ (l : List EntryValue). a ∷ l) (glue more M P Q R x y)

module _ (old mid mix done new : BookValue) (ds : List ℕ) (e : EditValue) (rounds : ℕ)
    (f : EndsFlights old mid ds) (m : MixedTogether mid e mix) (c : Completes (length mid.log) 1 mix done) (g : RanRounds done rounds new) where
  abbrev U : Unfolding
  U = unfolding_of old.program

  abbrev ends : List EntryValue
  ends = entries_of (ends_of ds)

  abbrev table : List EntryValue
  table = BeginEntry m.first ∷ m.among ++ EditEntry e ∷ m.after

  ran : RanOn old mid ends
  ran = ran_ends old mid ds f

  net_mid : (core_of mid.core).net ≡ (core_of old.core).net
  net_mid = ran_net old mid ends ran

  numbers_mix : numbers (core_of mix.core).net.devices ≡ numbers (core_of old.core).net.devices
  numbers_mix = m.devices ∙ ap (λ (n : Network). numbers n.devices) net_mid

  net_done : (core_of done.core).net ≡ (core_of mix.core).net
  net_done = ran_net mix done c.part c.ran

  numbers_done : numbers (core_of done.core).net.devices ≡ numbers (core_of old.core).net.devices
  numbers_done = ap (λ (n : Network). numbers n.devices) net_done ∙ numbers_mix

  abbrev rest : List EntryValue
  rest = (m.after ++ c.part) ++ g.part

  abbrev part : List EntryValue
  part = ends ++ BeginEntry m.first ∷ m.among ++ EditEntry e ∷ rest

  cut : (ends ++ table) ++ (c.part ++ g.part) ≡ part
  cut = glue ends m.among m.after c.part g.part (BeginEntry m.first) (EditEntry e)

  program_mix : mix.program ≡ old.program
  program_mix = m.program ∙ ran.program

  log : entries_of new.log ≡ entries_of old.log ++ part
  log = g.log ∙ (ap (λ (l : List EntryValue). l ++ g.part) (c.ran.log ∙ ap (λ (l : List EntryValue). l ++ c.part) (m.log ∙ ap (λ (l : List EntryValue). l ++ table) ran.log))
      ∙ (ap (λ (l : List EntryValue). (l ++ c.part) ++ g.part) (append_assoc (entries_of old.log) ends table)
      ∙ (append_assoc (entries_of old.log ++ (ends ++ table)) c.part g.part
      ∙ (append_assoc (entries_of old.log) (ends ++ table) (c.part ++ g.part) ∙ ap (λ (l : List EntryValue). entries_of old.log ++ l) cut))))

  leads : Run U (core_of old.core) part (core_of new.core)
  leads = subst (λ (l : List EntryValue). Run U (core_of old.core) l (core_of new.core)) cut
      (run_join U (core_of old.core) (core_of mix.core) (core_of new.core) (ends ++ table) (c.part ++ g.part)
      (run_join U (core_of old.core) (core_of mid.core) (core_of mix.core) ends table ran.leads
      (subst (λ (p : Program). Run (unfolding_of p) (core_of mid.core) table (core_of mix.core)) ran.program m.leads))
      (run_join U (core_of mix.core) (core_of done.core) (core_of new.core) c.part g.part
      (subst (λ (p : Program). Run (unfolding_of p) (core_of mix.core) c.part (core_of done.core)) program_mix c.ran.leads)
      (subst (λ (p : Program). Run (unfolding_of p) (core_of done.core) g.part (core_of new.core)) (c.ran.program ∙ program_mix) g.stretch.leads)))

  behind : drop (length mid.log) (entries_of done.log) ≡ table ++ c.part
  behind = ap (drop (length mid.log)) (c.ran.log ∙ (ap (λ (l : List EntryValue). l ++ c.part) m.log ∙ append_assoc (entries_of mid.log) table c.part))
      ∙ ((λ i. drop (sym (length-map mid.log entry_of) i) (entries_of mid.log ++ (table ++ c.part))) ∙ drop-append_seam (entries_of mid.log) (table ++ c.part))

  begun : EachBegins (core_of old.core).net part (rounds + 1)
  begun d live =
      let one = c.begun d (subst (λ ns. is_in d ns ≡ true) (sym numbers_mix) live) in
      let in_table = sym (ap (begins d) behind) ∙ one in
      let more = g.stretch.begun d (subst (λ ns. is_in d ns ≡ true) (sym numbers_done) live) in
      let none = ends_begin d ds in
      let a = begins_join d (ends ++ table) (c.part ++ g.part) in
      let b = begins_join d ends table in
      let k = begins_join d c.part g.part in
      let t = begins_join d table c.part in
      sym (ap (begins d) cut) ∙ omega (arith, in_table, more, none, a, b, k, t)

  pub mixed_edit : MixedEdit old rounds e new
  mixed_edit = record {
    program = g.program ∙ (c.ran.program ∙ program_mix);
    start = g.start ∙ (c.ran.start ∙ (m.start ∙ ran.start));
    part = part;
    log = log;
    stretch = record {
      leads = leads;
      before = ends;
      first = m.first;
      among = m.among;
      after = rest;
      cut = refl;
      smallest = subst (λ (n : Network). IsSmallest n m.first) net_mid m.smallest;
      none_before = λ d. ends_begin d ds;
      flies = m.flies;
      plain_before = ran.plain;
      plain_among = m.plain_among;
      plain_after = plain_join (m.after ++ c.part) g.part (plain_join m.after c.part m.plain_after c.ran.plain) g.stretch.plain;
      begun = begun;
      covers = rounds_front (numbers (core_of old.core).net.devices) (m.after ++ c.part) g.part rounds (plain_join m.after c.part m.plain_after c.ran.plain)
          (subst (λ ns. HasRounds ns g.part rounds) numbers_done g.stretch.covers);
      rests = g.stretch.rests;
    };
  }

pub ok_each : {A E : Type 0} {P Q : A → Type 0} (r : Result A E) → ((x : A) → P x → Q x) → IfOk r P → IfOk r Q
ok_each (Ok x) f p = f x p
ok_each (Err e) f p = tt
