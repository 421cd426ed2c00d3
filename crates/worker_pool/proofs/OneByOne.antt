-- Devices that have begun one firing less than others are fired one after another.
use Rattle.std.proofs.Common.{◌≡◌, ℕ, zero, suc, ◌+◌, ◌<◌, ◌≤◌, List, [], ◌∷◌, ◌++◌, ◌-◌, map, max, take, drop, length, get_or, refl, sym, ap, ◌∙◌, subst, arith, inl, inr, ⊎_elim, Bool, true, false, nat_eq, nat_lt, None}
use Rattle.std.proofs.lemmas.Bool.{eqb-true, eqb-false, eq-eqb, ltb-true, ltb-false}
use Rattle.std.proofs.lemmas.List.{drop-append-le, length-append, length-map}
use Rattle.fc_values.proofs.Rising.{rises_at}
use Rattle.topology.specs.declared.types.Device.{Device}
use Rattle.topology.specs.Networks.{Network, NetDevice, IsNetwork, Lives, net_device_of, numbers}
use Rattle.topology.proofs.Lemmas.{in_at, at_in}
use Rattle.firing_core.specs.declared.entries.Entry.{Entry}
use Rattle.firing_core.specs.declared.entries.Entry.TheVariants as entry
use Rattle.firing_core.specs.Entries.{EntryValue, BeginEntry, EndEntry, entry_of, entries_of}
use Rattle.firing_core.specs.Cores.{Core, Run}
use Rattle.firing_core.specs.Replays.{fault_of}
use Rattle.firing_core.specs.CoreViews.{core_of}
use Rattle.firing_core.specs.Books.{BookValue, AppendsEntry, EndsFlights, ends_of}
use Rattle.firing_core.specs.Stretches.{begins, EachBegins, NoneFlies}
use Rattle.worker_pool.specs.Pacing.{TakesTurn, InTurn, IsOrdered}
use Rattle.worker_pool.specs.Rounding.{RanOn, AtMost, FiredAlone, FiredIfShort, IsGreatest, Completes}
use Rattle.fc_nodes.specs.Program.{Program, unfolding_of}
use Rattle.firing_core.proofs.Settling.{number_at}
use Rattle.worker_pool.proofs.Parts.{begins_join}
use Rattle.worker_pool.proofs.Flights.{alone_lands}
use Rattle.worker_pool.proofs.InTurn.{begins_this, begins_other, same_ordered, turn_join, ends_turn}
use Rattle.worker_pool.proofs.Stretching.{ran_none, ran_more, ran_net, ran_entry, ran_ends, ends_begin}

-- ---- places of a network

pub device_number : (n : Network) (ds : List Device) (p : ℕ) (x : Device) → map net_device_of ds ≡ n.devices → p < length ds → (get_or ds p x).id ≡ get_or (numbers n.devices) p 0
device_number n ds p x e l = sym (number_at ds p x l) ∙ ap (λ (ns : List NetDevice). get_or (numbers ns) p 0) e

pub device_many : (n : Network) (ds : List Device) → map net_device_of ds ≡ n.devices → length ds ≡ length n.devices
device_many n ds e = sym (length-map ds net_device_of) ∙ ap length e

-- ---- begins

-- since a place, after more entries
pub since_more : (front d : ℕ) (old new : BookValue) (part : List EntryValue) → front ≤ length old.log → entries_of new.log ≡ entries_of old.log ++ part
    → begins d (drop front (entries_of new.log)) ≡ begins d (drop front (entries_of old.log)) + begins d part
since_more front d old new part l e =
    ap (λ (es : List EntryValue). begins d (drop front es)) e
    ∙ (ap (begins d) (drop-append-le front (entries_of old.log) part (subst (λ n. front ≤ n) (sym (length-map old.log entry_of)) l))
    ∙ begins_join d (drop front (entries_of old.log)) part)

-- ---- a device that fires alone

-- it may begin and then end
pub begin_allowed : (c : Core) (d : ℕ) → Lives c.net d → c.flying d ≡ None → fault_of c (BeginEntry d) ≡ None
begin_allowed c d live rests = rw (live, rests) refl

pub end_allowed : (old mid : BookValue) (d : ℕ) → Lives old.core.net d → AppendsEntry old mid (entry.Begin d) → fault_of (core_of mid.core) (EndEntry d) ≡ None
end_allowed old mid d live a = subst (λ (k : Core). fault_of k (EndEntry d) ≡ None) (sym a.step.2) (rw (live, eq-eqb d d refl) refl)

pub fired_alone : (old mid new : BookValue) (d : ℕ) → NoneFlies (core_of old.core) → AppendsEntry old mid (entry.Begin d) → AppendsEntry mid new (entry.End d) → FiredAlone old d new
fired_alone old mid new d rests a b =
    let ran = ran_more old mid new (BeginEntry d ∷ []) (EndEntry d ∷ []) (ran_entry old mid (entry.Begin d) a refl) (ran_entry mid new (entry.End d) b refl) in
    record { ran = ran; rests = alone_lands (unfolding_of old.program) (core_of old.core) (core_of new.core) d ran.leads rests }

-- ---- the device at a place

-- the devices at two places of a network
pub places_rise : (n : Network) → IsNetwork n → (i j : ℕ) → i < j → j < length (numbers n.devices) → get_or (numbers n.devices) i 0 < get_or (numbers n.devices) j 0
places_rise n net i j l m = rises_at (numbers n.devices) net.rising i j l m

pub place_below : (n : Network) → IsNetwork n → (i j : ℕ) → i < length (numbers n.devices) → get_or (numbers n.devices) i 0 < get_or (numbers n.devices) j 0 → i < j
place_below n net i j inside l = by_order (nat_lt i j) refl
  where
    by_order : (b : Bool) → nat_lt i j ≡ b → i < j
    by_order true q = ltb-true i j q
    by_order false q = absurd (back (nat_eq i j) refl)
      where
        back : (b : Bool) → nat_eq i j ≡ b → ⊥
        back true p = let e = ap (λ k. get_or (numbers n.devices) k 0) (eqb-true i j p) in omega (arith, e, l)
        back false p = let g = places_rise n net j i (behind (ltb-false i j q) (eqb-false i j p)) inside in omega (arith, g, l)
          where
            behind : j ≤ i → (i ≡ j → ⊥) → j < i
            behind l n = omega (arith, l, n)

-- the device at a place is there
pub place_lives : (n : Network) (p d : ℕ) → p < length n.devices → d ≡ get_or (numbers n.devices) p 0 → Lives n d
place_lives n p d l is = at_in d (numbers n.devices) p (let m = length-map n.devices (λ (x : NetDevice). x.id) in omega (arith, m, l)) (sym is)

-- a device that has begun enough doesn't fire
pub not_short : (front rounds place : ℕ) (book : BookValue) → NoneFlies (core_of book.core) → rounds ≤ begins (get_or (numbers book.core.net.devices) place 0) (drop front (entries_of book.log))
    → FiredIfShort front rounds place book book
not_short front rounds place book rests enough = record { part = []; ran = ran_none book; rests = rests; fired = inl (enough, refl) }

pub was_short : (front rounds place : ℕ) (old new : BookValue) (d : ℕ) → d ≡ get_or (numbers old.core.net.devices) place 0 → FiredAlone old d new
    → begins (get_or (numbers old.core.net.devices) place 0) (drop front (entries_of old.log)) < rounds → FiredIfShort front rounds place old new
was_short front rounds place old new d is f less =
    record { part = BeginEntry d ∷ EndEntry d ∷ []; ran = f.ran; rests = f.rests; fired = inr (less, ap (λ e. BeginEntry e ∷ EndEntry e ∷ []) is) }

-- ---- all devices before a place

pub record ShortsTo (front rounds : ℕ) (old now : BookValue) (place : ℕ) : Type 0 where
  pub part : List EntryValue
  pub ran : RanOn old now part
  pub rests : NoneFlies (core_of now.core)
  pub turns : InTurn (unfolding_of old.program) (numbers old.core.net.devices) (drop front (entries_of old.log)) (core_of old.core) part (core_of now.core)
  pub done : (j : ℕ) → j < place → begins (get_or (numbers old.core.net.devices) j 0) (drop front (entries_of now.log)) ≡ rounds
  pub left : (j : ℕ) → place ≤ j → j < length (numbers old.core.net.devices) → begins (get_or (numbers old.core.net.devices) j 0) (drop front (entries_of now.log)) ≡ begins (get_or (numbers old.core.net.devices) j 0) (drop front (entries_of old.log))

pub shorts_none : (front rounds : ℕ) (book : BookValue) → NoneFlies (core_of book.core) → ShortsTo front rounds book book 0
shorts_none front rounds book rests = record { part = []; ran = ran_none book; rests = rests; turns = refl; done = λ j l. absurd (omega (arith, l)); left = λ j l k. refl }

pub shorts_net : (front rounds : ℕ) (old now : BookValue) (place : ℕ) → ShortsTo front rounds old now place → now.core.net ≡ old.core.net
shorts_net front rounds old now place s = ran_net old now s.part s.ran

pub shorts_past : (front rounds : ℕ) (old now : BookValue) (place : ℕ) → front ≤ length old.log → ShortsTo front rounds old now place → front ≤ length now.log
shorts_past front rounds old now place l s =
    let a = sym (length-map now.log entry_of) ∙ (ap length s.ran.log ∙ length-append (entries_of old.log) s.part) in let b = length-map old.log entry_of in
    omega (arith, a, b, l)

-- what stands since a place, with what was added
pub since_part : (front : ℕ) (old new : BookValue) (part : List EntryValue) → front ≤ length old.log → entries_of new.log ≡ entries_of old.log ++ part → drop front (entries_of new.log) ≡ drop front (entries_of old.log) ++ part
since_part front old new part l e = ap (drop front) e ∙ drop-append-le front (entries_of old.log) part (subst (λ n. front ≤ n) (sym (length-map old.log entry_of)) l)

-- a device has begun at most one firing fewer than the greatest number
pub nearly : (n : Network) (part : List EntryValue) (rounds : ℕ) → IsOrdered (numbers n.devices) part → IsGreatest n part rounds → (e : ℕ) → Lives n e → rounds ≤ begins e part + 1
nearly n part rounds o g e live = g.least (begins e part + 1) (omega arith) (λ d l. o.near d e l live)

module _ (front rounds : ℕ) (old now new : BookValue) (place : ℕ) (net : IsNetwork old.core.net) (ordered : IsOrdered (numbers old.core.net.devices) (drop front (entries_of old.log)))
    (greatest : IsGreatest old.core.net (drop front (entries_of old.log)) rounds) (past : front ≤ length old.log) (within : place < length old.core.net.devices)
    (s : ShortsTo front rounds old now place) (f : FiredIfShort front rounds place now new) where
  abbrev ids : List ℕ
  ids = numbers old.core.net.devices

  abbrev d : ℕ
  d = get_or ids place 0

  abbrev before : List EntryValue
  before = drop front (entries_of old.log)

  count : length ids ≡ length old.core.net.devices
  count = length-map old.core.net.devices (λ (n : NetDevice). n.id)

  inside : place < length ids
  inside = let c = count in omega (arith, c, within)

  same : get_or (numbers now.core.net.devices) place 0 ≡ d
  same = ap (λ (n : Network). get_or (numbers n.devices) place 0) (shorts_net front rounds old now place s)

  here : Lives old.core.net d
  here = at_in d ids place inside refl

  grown : front ≤ length now.log
  grown = shorts_past front rounds old now place past s

  -- what it has begun before
  begun_before : begins d (drop front (entries_of now.log)) ≡ begins d before
  begun_before = s.left place (omega arith) inside

  at_now : drop front (entries_of now.log) ≡ before ++ s.part
  at_now = since_part front old now s.part past s.ran.log

  more : (e : ℕ) → begins e (drop front (entries_of new.log)) ≡ begins e (drop front (entries_of now.log)) + begins e f.part
  more e = since_more front e now new f.part grown f.ran.log

  abbrev alone : List EntryValue
  alone = BeginEntry d ∷ EndEntry d ∷ []

  others : (e : ℕ) → (d ≡ e → ⊥) → begins e alone ≡ 0
  others e n = begins_other d e n

  -- each has begun enough, or one firing less
  enough : (e : ℕ) → Lives old.core.net e → begins d (drop front (entries_of now.log)) < rounds → begins d (drop front (entries_of now.log)) ≤ begins e (drop front (entries_of now.log))
  enough e live less = by_place (in_at e ids live)
    where
      by_place : ((i : ℕ) × (i < length ids) × (get_or ids i 0 ≡ e)) → begins d (drop front (entries_of now.log)) ≤ begins e (drop front (entries_of now.log))
      by_place k = subst (λ x. begins d (drop front (entries_of now.log)) ≤ begins x (drop front (entries_of now.log))) k.2 (by_order (nat_lt k.0 place) refl)
        where
          by_order : (b : Bool) → nat_lt k.0 place ≡ b → begins d (drop front (entries_of now.log)) ≤ begins (get_or ids k.0 0) (drop front (entries_of now.log))
          by_order true q = let o = s.done k.0 (ltb-true k.0 place q) in omega (arith, o, less)
          by_order false q =
              let o = s.left k.0 (ltb-false k.0 place q) k.1 in
              let n = nearly old.core.net before rounds ordered greatest (get_or ids k.0 0) (at_in (get_or ids k.0 0) ids k.0 k.1 refl) in
              omega (arith, o, n, less)

  ahead : (e : ℕ) → Lives old.core.net e → e < d → begins d (drop front (entries_of now.log)) < rounds → begins d (drop front (entries_of now.log)) < begins e (drop front (entries_of now.log))
  ahead e live l less =
      let k = in_at e ids live in
      let o = s.done k.0 (place_below old.core.net net k.0 place k.1 (subst (λ x. x < d) (sym k.2) l)) in
      subst (λ x. begins d (drop front (entries_of now.log)) < begins x (drop front (entries_of now.log))) k.2 (omega (arith, o, less))

  takes : begins d (drop front (entries_of now.log)) < rounds → TakesTurn ids (before ++ s.part) (core_of now.core) d
  takes less = subst (λ (l : List EntryValue). TakesTurn ids l (core_of now.core) d) at_now
      (record { there = here; behind = λ e i. enough e i less; rests = λ e i q. s.rests e; ahead = λ e i l. ahead e i l less })

  leads : Run (unfolding_of old.program) (core_of now.core) f.part (core_of new.core)
  leads = subst (λ (p : Program). Run (unfolding_of p) (core_of now.core) f.part (core_of new.core)) s.ran.program f.ran.leads

  fires : begins d (drop front (entries_of now.log)) < rounds → Run (unfolding_of old.program) (core_of now.core) alone (core_of new.core)
      → InTurn (unfolding_of old.program) ids (before ++ s.part) (core_of now.core) alone (core_of new.core)
  fires less r = (r.0, r.1, takes less, (r.2.0, r.2.1, tt, r.2.2))

  -- with the part that was added
  abbrev EntriesAdded : List EntryValue → Type 0
  EntriesAdded part = (begins d (drop front (entries_of now.log)) + begins d part ≡ rounds) × ((e : ℕ) → (d ≡ e → ⊥) → begins e part ≡ 0)
      × InTurn (unfolding_of old.program) ids (before ++ s.part) (core_of now.core) part (core_of new.core)

  added_none : rounds ≤ begins d (drop front (entries_of now.log)) → Run (unfolding_of old.program) (core_of now.core) [] (core_of new.core) → EntriesAdded []
  added_none l r = (let b = begun_before in let m = greatest.most d here in omega (arith, l, b, m), λ e n. refl, r)

  added_alone : begins d (drop front (entries_of now.log)) < rounds → Run (unfolding_of old.program) (core_of now.core) alone (core_of new.core) → EntriesAdded alone
  added_alone l r = (
    let b = begun_before in let n = nearly old.core.net before rounds ordered greatest d here in let o : begins d alone ≡ 1 = begins_this d in omega (arith, l, b, n, o),
    others,
    fires l r,
  )

  added : EntriesAdded f.part
  added = ⊎_elim
      (λ k. subst EntriesAdded (sym k.1) (added_none (subst (λ x. rounds ≤ begins x (drop front (entries_of now.log))) same k.0)
      (subst (λ (l : List EntryValue). Run (unfolding_of old.program) (core_of now.core) l (core_of new.core)) k.1 leads)))
      (λ k. let is : f.part ≡ alone = k.1 ∙ ap (λ x. BeginEntry x ∷ EndEntry x ∷ []) same in
      subst EntriesAdded (sym is) (added_alone (subst (λ x. begins x (drop front (entries_of now.log)) < rounds) same k.0)
      (subst (λ (l : List EntryValue). Run (unfolding_of old.program) (core_of now.core) l (core_of new.core)) is leads)))
      f.fired

  apart : (j : ℕ) → j < length ids → (j ≡ place → ⊥) → d ≡ get_or ids j 0 → ⊥
  apart j l n e = by_order (nat_lt j place) refl
    where
      by_order : (b : Bool) → nat_lt j place ≡ b → ⊥
      by_order true q = let k = places_rise old.core.net net j place (ltb-true j place q) inside in omega (arith, k, e)
      by_order false q = let k = places_rise old.core.net net place j (behind (ltb-false j place q) n) l in omega (arith, k, e)
        where
          behind : place ≤ j → (j ≡ place → ⊥) → place < j
          behind a b = omega (arith, a, b)

  done_all : (j : ℕ) → j < place + 1 → begins (get_or ids j 0) (drop front (entries_of new.log)) ≡ rounds
  done_all j l = by_test (nat_eq j place) refl
    where
      by_test : (b : Bool) → nat_eq j place ≡ b → begins (get_or ids j 0) (drop front (entries_of new.log)) ≡ rounds
      by_test true q = let e = eqb-true j place q in subst (λ i. begins (get_or ids i 0) (drop front (entries_of new.log)) ≡ rounds) (sym e) (more d ∙ added.0)
      by_test false q =
          let o = s.done j (earlier l (eqb-false j place q)) in let m = more (get_or ids j 0) in let k = inside in
          let z = added.1 (get_or ids j 0) (apart j (omega (arith, l, k)) (eqb-false j place q)) in omega (arith, o, m, z)
        where
          earlier : j < place + 1 → (j ≡ place → ⊥) → j < place
          earlier a b = omega (arith, a, b)

  left_all : (j : ℕ) → place + 1 ≤ j → j < length ids → begins (get_or ids j 0) (drop front (entries_of new.log)) ≡ begins (get_or ids j 0) before
  left_all j l k =
      let o = s.left j (omega (arith, l)) k in let m = more (get_or ids j 0) in
      let z = added.1 (get_or ids j 0) (apart j k (λ e. omega (arith, e, l))) in omega (arith, o, m, z)

  pub shorts_more : ShortsTo front rounds old new (place + 1)
  shorts_more = record {
    part = s.part ++ f.part;
    ran = ran_more old now new s.part f.part s.ran f.ran;
    rests = f.rests;
    turns = turn_join (unfolding_of old.program) ids before (core_of old.core) (core_of now.core) (core_of new.core) s.part f.part s.turns added.2;
    done = done_all;
    left = left_all;
  }

pub shorts_all : (front rounds : ℕ) (old now : BookValue) (count : ℕ) → count ≡ length old.core.net.devices → ShortsTo front rounds old now count → Completes front rounds old now
shorts_all front rounds old now count many s = record {
  part = s.part;
  ran = s.ran;
  rests = s.rests;
  begun = λ d live. let k = in_at d (numbers old.core.net.devices) live in
      subst (λ e. begins e (drop front (entries_of now.log)) ≡ rounds) k.2 (s.done k.0 (let m = length-map old.core.net.devices (λ (n : NetDevice). n.id) in let l = k.1 in omega (arith, m, l, many)));
  turns = s.turns;
}

-- ---- the smallest device and the largest

-- the smallest device has begun the greatest number of firings
pub greatest_first : (n : Network) (part : List EntryValue) → IsNetwork n → IsOrdered (numbers n.devices) part → IsGreatest n part (max (begins (get_or (numbers n.devices) 0 0) part) 1)
greatest_first n part net o = record { some = omega arith; most = most; least = λ k l m. let f = m first (at_in first ids 0 inside refl) in omega (arith, f, l) }
  where
    ids : List ℕ
    ids = numbers n.devices

    first : ℕ
    first = get_or ids 0 0

    inside : 0 < length ids
    inside = let c = length-map n.devices (λ (x : NetDevice). x.id) in let s = net.some in omega (arith, c, s)

    positive : (i : ℕ) → nat_eq i 0 ≡ false → 0 < i
    positive zero q = absurd cc
    positive (suc i) q = omega arith

    most : AtMost (max (begins first part) 1) n part
    most d live = by_place (in_at d ids live)
      where
        by_place : ((i : ℕ) × (i < length ids) × (get_or ids i 0 ≡ d)) → begins d part ≤ max (begins first part) 1
        by_place k = subst (λ x. begins x part ≤ max (begins first part) 1) k.2 (by_test (nat_eq k.0 0) refl)
          where
            by_test : (b : Bool) → nat_eq k.0 0 ≡ b → begins (get_or ids k.0 0) part ≤ max (begins first part) 1
            by_test true q = subst (λ i. begins (get_or ids i 0) part ≤ max (begins first part) 1) (sym (eqb-true k.0 0 q)) (omega arith)
            by_test false q =
                let r = places_rise n net 0 k.0 (positive k.0 q) k.1 in
                let f = o.falls first (get_or ids k.0 0) (at_in first ids 0 inside refl) (at_in (get_or ids k.0 0) ids k.0 k.1 refl) r in
                omega (arith, f)

-- where the largest device has begun as many, each has
pub last_begins : (n : Network) (part : List EntryValue) (rounds last : ℕ) → IsNetwork n → IsOrdered (numbers n.devices) part → IsGreatest n part rounds → last ≡ length n.devices - 1
    → rounds ≤ begins (get_or (numbers n.devices) last 0) part → EachBegins n part rounds
last_begins n part rounds last net o g is enough d live = by_place (in_at d ids live)
  where
    ids : List ℕ
    ids = numbers n.devices

    inside : (last < length ids) × (length ids ≡ last + 1)
    inside = let c = length-map n.devices (λ (x : NetDevice). x.id) in let s = net.some in (omega (arith, c, s, is), omega (arith, c, s, is))

    by_place : ((i : ℕ) × (i < length ids) × (get_or ids i 0 ≡ d)) → begins d part ≡ rounds
    by_place k = subst (λ x. begins x part ≡ rounds) k.2 (by_test (nat_lt k.0 last) refl)
      where
        most : begins (get_or ids k.0 0) part ≤ rounds
        most = g.most (get_or ids k.0 0) (at_in (get_or ids k.0 0) ids k.0 k.1 refl)

        by_test : (b : Bool) → nat_lt k.0 last ≡ b → begins (get_or ids k.0 0) part ≡ rounds
        by_test true q =
            let r = places_rise n net k.0 last (ltb-true k.0 last q) inside.0 in
            let f = o.falls (get_or ids k.0 0) (get_or ids last 0) (at_in (get_or ids k.0 0) ids k.0 k.1 refl) (at_in (get_or ids last 0) ids last inside.0 refl) r in
            let m = most in omega (arith, f, m, enough)
        by_test false q =
            let b = ltb-false k.0 last q in let i = inside.1 in let l = k.1 in
            let e : last ≡ k.0 = omega (arith, b, i, l) in
            let m = most in let f = subst (λ j. rounds ≤ begins (get_or ids j 0) part) e enough in omega (arith, f, m)

pub complete_already : (front rounds : ℕ) (book : BookValue) → NoneFlies (core_of book.core) → EachBegins (core_of book.core).net (drop front (entries_of book.log)) rounds → Completes front rounds book book
complete_already front rounds book rests begun = record { part = []; ran = ran_none book; rests = rests; begun = begun; turns = refl }

-- ---- after the flights are settled

-- what was begun since a place is the same
settled_begins : (front : ℕ) (old mid : BookValue) (ds : List ℕ) → front ≤ length old.log → EndsFlights old mid ds → (d : ℕ) → begins d (drop front (entries_of mid.log)) ≡ begins d (drop front (entries_of old.log))
settled_begins front old mid ds l f d =
    let more = since_more front d old mid (entries_of (ends_of ds)) l (ran_ends old mid ds f).log in
    let none = ends_begin d ds in
    omega (arith, more, none)

settled_net : (old mid : BookValue) (ds : List ℕ) → EndsFlights old mid ds → mid.core.net ≡ old.core.net
settled_net old mid ds f = ran_net old mid _ (ran_ends old mid ds f)

pub ordered_settled : (front : ℕ) (old mid : BookValue) (ds : List ℕ) → front ≤ length old.log → EndsFlights old mid ds → IsOrdered (numbers old.core.net.devices) (drop front (entries_of old.log))
    → IsOrdered (numbers mid.core.net.devices) (drop front (entries_of mid.log))
ordered_settled front old mid ds l f o =
    subst (λ (n : Network). IsOrdered (numbers n.devices) (drop front (entries_of mid.log))) (sym (settled_net old mid ds f))
    (same_ordered (numbers old.core.net.devices) (drop front (entries_of old.log)) (drop front (entries_of mid.log)) (settled_begins front old mid ds l f) o)

pub greatest_settled : (front rounds : ℕ) (old mid : BookValue) (ds : List ℕ) → front ≤ length old.log → EndsFlights old mid ds → IsGreatest mid.core.net (drop front (entries_of mid.log)) rounds
    → IsGreatest old.core.net (drop front (entries_of old.log)) rounds
greatest_settled front rounds old mid ds l f g =
    let h = subst (λ (n : Network). IsGreatest n (drop front (entries_of mid.log)) rounds) (settled_net old mid ds f) g in
    record {
      some = h.some;
      most = λ d live. let a = h.most d live in let b = settled_begins front old mid ds l f d in omega (arith, a, b);
      least = λ k s m. h.least k s (λ d live. let a = m d live in let b = settled_begins front old mid ds l f d in omega (arith, a, b));
    }

pub completes_settled : (front rounds : ℕ) (old mid new : BookValue) (ds : List ℕ) → front ≤ length old.log → EndsFlights old mid ds → Completes front rounds mid new → Completes front rounds old new
completes_settled front rounds old mid new ds l f c =
    let ran = ran_ends old mid ds f in
    let net = settled_net old mid ds f in
    let U = unfolding_of old.program in
    let ids = numbers old.core.net.devices in
    let before = drop front (entries_of old.log) in
    let ends = entries_of (ends_of ds) in
    record {
      part = ends ++ c.part;
      ran = ran_more old mid new ends c.part ran c.ran;
      rests = c.rests;
      begun = λ d live. c.begun d (subst (λ (n : Network). Lives n d) (sym net) live);
      turns = turn_join U ids before (core_of old.core) (core_of mid.core) (core_of new.core) ends c.part (ends_turn U ids before (core_of old.core) (core_of mid.core) ds f.run)
          (subst (λ (z : Program × Network × List EntryValue). InTurn (unfolding_of z.0) (numbers z.1.devices) z.2 (core_of mid.core) c.part (core_of new.core))
          (λ i. (ran.program i, net i, since_part front old mid ends l ran.log i)) c.turns);
    }

-- ---- the entries since a place

entries_drop : (n : ℕ) (l : List Entry) → entries_of (drop n l) ≡ drop n (entries_of l)
entries_drop zero l = refl
entries_drop (suc n) [] = refl
entries_drop (suc n) (x ∷ xs) = entries_drop n xs

take_all : (k : ℕ) (xs : List Entry) → k ≡ length xs → take k xs ≡ xs
take_all zero [] e = refl
take_all zero (x ∷ xs) e = absurd (omega (arith, e))
take_all (suc k) [] e = absurd (omega (arith, e))
take_all (suc k) (x ∷ xs) e = ap (λ ys. x ∷ ys) (take_all k xs (omega (arith, e)))

drop_many : (n : ℕ) (l : List Entry) → length l - n ≡ length (drop n l)
drop_many zero l = omega arith
drop_many (suc n) [] = omega arith
drop_many (suc n) (x ∷ xs) = let ih = drop_many n xs in omega (arith, ih)

pub begun_since : (d e front k : ℕ) (log now : List Entry) → now ≡ log → d ≡ e → k ≡ begins d (entries_of (take (length now - front) (drop front now))) → k ≡ begins e (drop front (entries_of log))
begun_since d e front k log now same at is =
    is ∙ (ap (λ (l : List Entry). begins d (entries_of l)) (take_all (length now - front) (drop front now) (drop_many front now))
    ∙ (ap (λ (l : List Entry). begins d (entries_of (drop front l))) same ∙ (ap (begins d) (entries_drop front log) ∙ ap (λ x. begins x (drop front (entries_of log))) at)))
