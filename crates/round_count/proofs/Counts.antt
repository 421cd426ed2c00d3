-- Counting rounds one entry after another.
use Rattle.std.proofs.Common.{◌≡◌, ◌<◌, ◌≤◌, ◌+◌, ◌-◌, ℕ, zero, suc, Bool, true, false, List, [], ◌∷◌, ◌++◌, length, get_or, drop, map, replicate, if◌then◌else◌, refl, sym, ap, subst, arith, add-zero, zero-add, leb, leb-true, leb-false}
use Rattle.std.proofs.lemmas.List.{drop_all}
use Rattle.firing_core.specs.declared.entries.Entry.{Entry}
use Rattle.firing_core.specs.Entries.{EntryValue, entry_of}
use Rattle.firing_core.specs.Rounds.{is_edit, has_edit, HasRounds}
use Rattle.round_count.specs.Marks.{wanting, noted}
use Rattle.round_count.proofs.Logs.{both_false, or_false, rounds_after, plain_at, entry_here}
use Rattle.round_count.proofs.Wants.{AllCome, all_down, all_up, none_come, all_sated, all_fire, each_fires}

-- a log that is a stretch in which comes what the devices want, and so many rounds more
pub record Cut (live ms : List ℕ) (log : List EntryValue) (k : ℕ) : Type 0 where
  pub part : List EntryValue
  pub rest : List EntryValue
  pub is : log ≡ part ++ rest
  pub plain : has_edit part ≡ false
  pub come : AllCome live ms part
  pub more : HasRounds live rest k

-- a log that has so many rounds, where the first is begun and the marks say what it wants
abbrev pub Rest : List ℕ → List ℕ → List EntryValue → ℕ → Type 0
Rest live ms log zero = has_edit log ≡ false
Rest live ms log (suc k) = Cut live ms log k

-- ---- one entry

cut_down : (e : EntryValue) (live ms : List ℕ) (log : List EntryValue) (k : ℕ) (part rest : List EntryValue) → length ms ≡ length live → 0 < wanting ms → is_edit e ≡ false → e ∷ log ≡ part ++ rest → has_edit part ≡ false → AllCome live ms part → HasRounds live rest k → Cut live (noted e live ms) log k
cut_down e live ms log k [] rest l w q is plain come more = let n = none_come live ms l come in absurd (omega arith)
cut_down e live ms log k (x ∷ part) rest l w q is plain come more =
    let head : x ≡ e = cc in
    let tail : log ≡ part ++ rest = cc in
    record {
      part = part;
      rest = rest;
      is = tail;
      plain = (both_false (is_edit x) (has_edit part) plain).1;
      come = all_down e live ms part q (subst (λ (y : EntryValue). AllCome live ms (y ∷ part)) head come);
      more = more;
    }

rest_down : (e : EntryValue) (live ms : List ℕ) (log : List EntryValue) (k : ℕ) → length ms ≡ length live → 0 < wanting ms → is_edit e ≡ false → Rest live ms (e ∷ log) k → Rest live (noted e live ms) log k
rest_down e live ms log zero l w q h = (both_false (is_edit e) (has_edit log) h).1
rest_down e live ms log (suc k) l w q c = cut_down e live ms log k c.part c.rest l w q c.is c.plain c.come c.more

rest_up : (e : EntryValue) (live ms : List ℕ) (log : List EntryValue) (k : ℕ) → is_edit e ≡ false → Rest live (noted e live ms) log k → Rest live ms (e ∷ log) k
rest_up e live ms log zero q h = or_false (is_edit e) (has_edit log) q h
rest_up e live ms log (suc k) q c = record {
  part = e ∷ c.part;
  rest = c.rest;
  is = ap (λ (l : List EntryValue). e ∷ l) c.is;
  plain = or_false (is_edit e) (has_edit c.part) q c.plain;
  come = all_up e live ms c.part q c.come;
  more = c.more;
}

-- ---- the end of a round, and the begin of the next

full_down : (live ms : List ℕ) (log : List EntryValue) (k : ℕ) → Cut live ms log k → HasRounds live log k
full_down live ms log k c = subst (λ (l : List EntryValue). HasRounds live l k) (sym c.is) (rounds_after live k c.part c.rest c.plain c.more)

full_up : (live ms : List ℕ) (log : List EntryValue) (k : ℕ) → length ms ≡ length live → wanting ms ≡ 0 → HasRounds live log k → Cut live ms log k
full_up live ms log k l w h = record {
  part = [];
  rest = log;
  is = refl;
  plain = refl;
  come = all_sated live ms [] l w;
  more = h;
}

fresh_down : (live : List ℕ) (log : List EntryValue) (k : ℕ) → HasRounds live log k → Rest live (replicate (length live) 0) log k
fresh_down live log zero h = h
fresh_down live log (suc k) h = record {
  part = h.0;
  rest = h.1;
  is = h.2;
  plain = h.3.plain;
  come = all_fire live h.0 h.3.fires;
  more = h.4;
}

fresh_up : (live : List ℕ) (log : List EntryValue) (k : ℕ) → Rest live (replicate (length live) 0) log k → HasRounds live log k
fresh_up live log zero h = h
fresh_up live log (suc k) c = (
  c.part,
  c.rest,
  c.is,
  record {
    plain = c.plain;
    fires = each_fires live c.part c.come;
  },
  c.more,
)

-- ---- counting

-- a log has so many rounds and more exactly where the rest of it has these more
pub record Counted (live : List ℕ) (log : List EntryValue) (count : ℕ) (ms : List ℕ) (rest : List EntryValue) : Type 0 where
  pub down : (k : ℕ) → HasRounds live log (count + k) → Rest live ms rest k
  pub up : (k : ℕ) → Rest live ms rest k → HasRounds live log (count + k)

pub counted_first : (live : List ℕ) (log : List EntryValue) → Counted live log 0 (replicate (length live) 0) log
counted_first live log = record {
  down = λ k h. fresh_down live log k (subst (λ n. HasRounds live log n) (zero-add k) h);
  up = λ k h. subst (λ n. HasRounds live log n) (sym (zero-add k)) (fresh_up live log k h);
}

pub counted_more : {live : List ℕ} {log : List EntryValue} {count : ℕ} {ms : List ℕ} {e : EntryValue} {rest : List EntryValue} → Counted live log count ms (e ∷ rest) → length ms ≡ length live → 0 < wanting ms → is_edit e ≡ false → Counted live log count (noted e live ms) rest
counted_more {live} {log} {count} {ms} {e} {rest} c l w q = record {
  down = λ k h. rest_down e live ms rest k l w q (c.down k h);
  up = λ k h. c.up k (rest_up e live ms rest k q h);
}

pub counted_round : {live : List ℕ} {log : List EntryValue} {count : ℕ} {ms : List ℕ} {rest : List EntryValue} → Counted live log count ms rest → length ms ≡ length live → wanting ms ≡ 0 → Counted live log (count + 1) (replicate (length live) 0) rest
counted_round {live} {log} {count} {ms} {rest} c l w = record {
  down = λ k h. fresh_down live rest k (full_down live ms rest k (c.down (suc k) (subst (λ n. HasRounds live log n) (one_more k) h)));
  up = λ k h. subst (λ n. HasRounds live log n) (sym (one_more k)) (c.up (suc k) (full_up live ms rest k l w (fresh_up live rest k h)));
}
  where
    one_more : (k : ℕ) → count + 1 + k ≡ count + suc k
    one_more k = omega arith

pub counted_has : {live : List ℕ} {log : List EntryValue} {count : ℕ} {ms : List ℕ} → Counted live log count ms [] → HasRounds live log count
counted_has {live} {log} {count} c = subst (λ n. HasRounds live log n) (add-zero count) (c.up 0 refl)

pub counted_all : {live : List ℕ} {log : List EntryValue} {count : ℕ} {ms : List ℕ} → Counted live log count ms [] → length ms ≡ length live → 0 < wanting ms → (k : ℕ) → HasRounds live log k → k ≤ count
counted_all {live} {log} {count} {ms} c l w k h = by_order (leb k count) refl
  where
    none_left : (j : ℕ) → Cut live ms [] j → ⊥
    none_left j cut = empty cut.part cut.rest cut.is cut.come
      where
        empty : (part rest : List EntryValue) → [] ≡ part ++ rest → AllCome live ms part → ⊥
        empty [] rest is come = let n = none_come live ms l come in omega arith
        empty (x ∷ part) rest is come = cc

    by_order : (b : Bool) → leb k count ≡ b → k ≤ count
    by_order true q = leb-true k count q
    by_order false q =
        let over = leb-false k count q in
        let is : k ≡ count + suc (k - count - 1) = omega arith in
        absurd (none_left (k - count - 1) (c.down (suc (k - count - 1)) (subst (λ n. HasRounds live log n) is h)))

-- ---- over the entries in code

pub counted_entry : (live : List ℕ) (part : List Entry) (count : ℕ) (ms : List ℕ) (i : ℕ) (e : Entry) → has_edit (map entry_of part) ≡ false → i < length part → e ≡ get_or part i e → length ms ≡ length live → 0 < wanting ms → Counted live (map entry_of part) count ms (map entry_of (drop i part)) → Counted live (map entry_of part) count (noted (entry_of e) live ms) (map entry_of (drop (i + 1) part))
counted_entry live part count ms i e plain h is l w c =
    counted_more (subst (λ (r : List EntryValue). Counted live (map entry_of part) count ms r) (entry_here part i e h is) c) l w (plain_at part i e plain h is)

pub counted_done : (live : List ℕ) (part : List Entry) (count : ℕ) (ms : List ℕ) (i : ℕ) → length part ≤ i → Counted live (map entry_of part) count ms (map entry_of (drop i part)) → Counted live (map entry_of part) count ms []
counted_done live part count ms i h c = subst (λ (r : List EntryValue). Counted live (map entry_of part) count ms r) (ap (λ l. map entry_of l) (drop_all i part h)) c

pub counted_at : {live : List ℕ} {log : List EntryValue} {count : ℕ} {ms : List ℕ} {rest : List EntryValue} (n : ℕ) (ns : List ℕ) → Counted live log count ms rest → n ≡ count → ns ≡ ms → Counted live log n ns rest
counted_at {live} {log} {count} {ms} {rest} n ns c e f = rw (e, f) c

-- how many devices want something after an entry
pub left_less : (r : Bool) (new old left after : ℕ) → new + (if r then 1 else 0) ≡ old → left ≡ old → r ≡ true → after ≡ left - 1 → after ≡ new
left_less true new old left after e f t g = omega arith
left_less false new old left after e f t g = absurd (cc)

pub left_same : (r : Bool) (new old left after : ℕ) → new + (if r then 1 else 0) ≡ old → left ≡ old → r ≡ false → after ≡ left → after ≡ new
left_same true new old left after e f t g = absurd (cc)
left_same false new old left after e f t g = omega arith
