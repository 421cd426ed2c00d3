-- Crates above cite this module: marks of the devices that hear of a change.
use Rattle.std.proofs.Common.{◌≡◌, ℕ, zero, suc, ◌<◌, ◌≤◌, List, [], ◌∷◌, length, map, take, get_or, refl, sym}
use Rattle.std.proofs.Common.{◌∙◌, ap, subst, arith, Bool, true, false, ◌||◌, nat_eq, ◌⊎◌, inl, inr}
use Rattle.std.specs.Prelude.{slice_set}
use Rattle.std.proofs.lemmas.Bool.{eq-eqb, ne_eqb, cases_order}
use Rattle.std.proofs.lemmas.List.{length-map, take_all}
use Rattle.fc_values.specs.Fields.{is_in, Rises}
use Rattle.fc_values.proofs.Rising.{rises_at}
use Rattle.envelopes.specs.declared.types.LinkBound.{LinkBound}
use Rattle.envelopes.specs.Envelopes.{MaybeDevice, MaybeLink, Envelope, ids, MayLive, maybe_near, near_ids}
use Rattle.envelopes.specs.Envelopes.{IsEnvelope}
use Rattle.envelopes.specs.Code.{neighbour_of}
use Rattle.envelopes.proofs.Within.{near_there}
use Rattle.bound_rounds.specs.Tables.{device_at, AreMarked}
use Rattle.bound_rounds.proofs.Closeness.{or_second}
use Rattle.bound_rounds.proofs.Places.{no_bound, no_near, many_near, near_read}

-- one mark more
pub marked_stays : (ms : List Bool) (p i : ℕ) → get_or ms i true ≡ true → get_or (slice_set ms p true) i true ≡ true
marked_stays [] p i e = refl
marked_stays (m ∷ ms) zero zero e = refl
marked_stays (m ∷ ms) zero (suc i) e = e
marked_stays (m ∷ ms) (suc p) zero e = e
marked_stays (m ∷ ms) (suc p) (suc i) e = marked_stays ms p i e

pub marked_here : (ms : List Bool) (p : ℕ) → get_or (slice_set ms p true) p true ≡ true
marked_here [] p = refl
marked_here (m ∷ ms) zero = refl
marked_here (m ∷ ms) (suc p) = marked_here ms p

pub mark_kept : (ms : List Bool) (p i : ℕ) → get_or (slice_set ms p true) i true ≡ false → get_or ms i true ≡ false
mark_kept [] p i e = e
mark_kept (m ∷ ms) zero zero e = absurd cc
mark_kept (m ∷ ms) zero (suc i) e = e
mark_kept (m ∷ ms) (suc p) zero e = e
mark_kept (m ∷ ms) (suc p) (suc i) e = mark_kept ms p i e

-- devices at different places have different numbers
one_place : (is : List ℕ) → Rises is → (i j : ℕ) → i < length is → j < length is → get_or is i 0 ≡ get_or is j 0 → i ≡ j
one_place is r i j h l e = by_order (cases_order i j)
  where
    by_order : (i ≡ j) ⊎ ((i < j) ⊎ (j < i)) → i ≡ j
    by_order (inl q) = q
    by_order (inr (inl k)) = let g = rises_at is r i j k l in absurd (omega (arith, g, e))
    by_order (inr (inr k)) = let g = rises_at is r j i k h in absurd (omega (arith, g, e))

pub at_one_place : (E : Envelope) → IsEnvelope E → (i j : ℕ) → i < length E.devices → j < length E.devices
    → device_at E i ≡ device_at E j → i ≡ j
at_one_place E envelope i j h l e =
    let m = length-map E.devices (λ (m : MaybeDevice). m.id) in
    one_place (ids E.devices) envelope.rising i j (omega (arith, h, m)) (omega (arith, l, m)) e

-- a place that isn't marked is another one
pub apart_from : (E : Envelope) → IsEnvelope E → (ms : List Bool) (p i d : ℕ) → p < length E.devices
    → i < length E.devices → device_at E p ≡ d → get_or ms p true ≡ true → get_or ms i true ≡ false
    → nat_eq (device_at E i) d ≡ false
apart_from E envelope ms p i d h l at marked q = ne_eqb (device_at E i) d (λ e.
    let same = at_one_place E envelope i p l h (e ∙ sym at) in
    let m : get_or ms i true ≡ true = ap (λ x. get_or ms x true) same ∙ marked in
    absurd cc)

-- ---- the neighbours of a device, one after another

or_none : (a b : Bool) → a ≡ false → b ≡ false → (a || b) ≡ false
or_none a b e q = rw (e, q) refl

pub taken_more : (ns : List (ℕ × MaybeLink)) (k e : ℕ) → k < length ns → is_in e (near_ids (take k ns)) ≡ false
    → nat_eq e (get_or ns k no_near).0 ≡ false
    → is_in e (near_ids (take (suc k) ns)) ≡ false
taken_more [] k e h i q = absurd (omega arith)
taken_more (n ∷ ns) zero e h i q = rw q refl
taken_more (n ∷ ns) (suc k) e h i q = by_test (nat_eq e n.0) refl i (taken_more ns k e (omega arith))
  where
    by_test : (c : Bool) → nat_eq e n.0 ≡ c → (c || is_in e (near_ids (take k ns))) ≡ false
        → (is_in e (near_ids (take k ns)) ≡ false → nat_eq e (get_or ns k no_near).0 ≡ false
        → is_in e (near_ids (take (suc k) ns)) ≡ false)
        → is_in e (near_ids (take (suc (suc k)) (n ∷ ns))) ≡ false
    by_test true t i ih = absurd cc
    by_test false t i ih = rw t (ih i q)

is_near : (ns : List (ℕ × MaybeLink)) (k : ℕ) → k < length ns → is_in (get_or ns k no_near).0 (near_ids ns) ≡ true
is_near [] k h = absurd (omega arith)
is_near (n ∷ ns) zero h = let t = eq-eqb n.0 n.0 refl in rw t refl
is_near (n ∷ ns) (suc k) h =
    let m = (get_or ns k no_near).0 in or_second (nat_eq m n.0) (is_in m (near_ids ns)) (is_near ns k (omega arith))

near_lives : (E : Envelope) → IsEnvelope E → (d : ℕ) (k : ℕ) → k < length (maybe_near d E.links)
    → MayLive E (get_or (maybe_near d E.links) k no_near).0
near_lives E envelope d k h =
    near_there E envelope d (get_or (maybe_near d E.links) k no_near).0 (is_near (maybe_near d E.links) k h)

-- a neighbour in code is a device that may be there
pub neighbour_lives : (E : Envelope) → IsEnvelope E → (d : ℕ) (ns : List (ℕ × LinkBound))
    → map neighbour_of ns ≡ maybe_near d E.links → (k : ℕ) → k < length ns → MayLive E (get_or ns k no_bound).0
neighbour_lives E envelope d ns all k h =
    subst (MayLive E) (sym (ap (λ (m : ℕ × MaybeLink). m.0) (near_read ns (maybe_near d E.links) all k h)))
    (near_lives E envelope d k (let m = many_near ns (maybe_near d E.links) all in omega (arith, h, m)))

-- ---- the marks of a device and of its first neighbours

pub record NearMarked (E : Envelope) (ms : List Bool) (p k : ℕ) : Type 0 where
  pub own : get_or ms p true ≡ true
  pub near : (i : ℕ) → i < length E.devices → get_or ms i true ≡ false
      → is_in (device_at E i) (near_ids (take k (maybe_near (device_at E p) E.links))) ≡ false

pub marked_first : (E : Envelope) (ms : List Bool) (p : ℕ) → NearMarked E (slice_set ms p true) p 0
marked_first E ms p = record { own = marked_here ms p; near = λ i h q. refl }

pub marked_next : (E : Envelope) → IsEnvelope E → (ms : List Bool) (p k at : ℕ)
    → k < length (maybe_near (device_at E p) E.links)
    → at < length E.devices
    → device_at E at ≡ (get_or (maybe_near (device_at E p) E.links) k no_near).0 → NearMarked E ms p k
    → NearMarked E (slice_set ms at true) p (suc k)
marked_next E envelope ms p k at h l e m = record {
  own = marked_stays ms at p m.own;
  near = λ i w q.
      let old = m.near i w (mark_kept ms at i q) in
      let other = apart_from E envelope (slice_set ms at true) at i
      (get_or (maybe_near (device_at E p) E.links) k no_near).0 l w e (marked_here ms at) q in
      taken_more (maybe_near (device_at E p) E.links) k (device_at E i) h old other;
}

pub marked_all : (E : Envelope) → IsEnvelope E → (ms : List Bool) (p k : ℕ) → p < length E.devices
    → length (maybe_near (device_at E p) E.links) ≤ k → NearMarked E ms p k
    → AreMarked E (device_at E p) ms
marked_all E envelope ms p k l h m i w q =
    let away = apart_from E envelope ms p i (device_at E p) l w refl m.own q in
    let whole : is_in (device_at E i) (near_ids (maybe_near (device_at E p) E.links)) ≡ false =
    subst (λ ns. is_in (device_at E i) (near_ids ns) ≡ false) (take_all k (maybe_near (device_at E p) E.links) h)
    (m.near i w q) in
    or_none (nat_eq (device_at E i) (device_at E p))
    (is_in (device_at E i) (near_ids (maybe_near (device_at E p) E.links))) away whole
