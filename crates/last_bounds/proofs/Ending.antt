-- The last table, and the round of each device.
use Rattle.std.proofs.Common.{◌≡◌, ℕ, zero, suc, ◌<◌, ◌≤◌, List, [], ◌∷◌, length, map, get_or, refl, sym, ◌∙◌, ap, subst}
use Rattle.std.proofs.Common.{arith, Bool, true, false, not, ◌⊎◌, inl, inr, All}
use Rattle.std.specs.declared.alloc.Global.{Global}
use Rattle.std.specs.declared.vec.Vec.{Vec}
use Rattle.std.proofs.lemmas.List.{get_or-map}
use Rattle.fc_nodes.specs.Program.{Unfolding}
use Rattle.value_bounds.specs.BoundValues.{BoundValue}
use Rattle.value_bounds.specs.References.{local_bound_in}
use Rattle.bound_firing.specs.declared.firing.ExportBound.{ExportBound as FlatBound}
use Rattle.bound_firing.specs.Exports.{ExportBound}
use Rattle.envelopes.specs.Envelopes.{Envelope, ids, MayLive, surely_lives}
use Rattle.bound_rounds.specs.Rounds.{BoundTable, rounds_within, HasBound}
use Rattle.bound_rounds.specs.Tables.{Stand, device_at}
use Rattle.bound_rounds.proofs.Standing.{stand_at, many_numbers}
use Rattle.bound_rounds.proofs.Rounding.{at_lives}
use Rattle.last_bounds.specs.declared.changes.Change.{Change}
use Rattle.last_bounds.specs.declared.lasts.LastBound.{LastBound as FlatLast}
use Rattle.last_bounds.specs.LastBounds.{LastBound, EndsAfter, HasBoundFirst, IsLastBound, AreLastBounds}
use Rattle.last_bounds.specs.References.{ChangeValue, IsFirst, EachIs, InTurn, FoundBy, AreChanges, HasEnded, IsMade}
use Rattle.last_bounds.specs.References.{AreMade, changes_in, last_bound_in, values_in}

-- ---- the first change to a bound, which is there

first_is : (P : ChangeValue → Type 0) (i : ℕ) (b : BoundValue) (never r : ℕ) (cs : List ChangeValue) → FoundBy i b cs
    → IsFirst b never cs r → EachIs P cs → P (r, b)
first_is P i b never r [] f h e = absurd f
first_is P i b never r (c ∷ cs) f (inl h) e =
    subst (λ w. P (r, w)) h.0 (subst (λ x. P (x, c.1)) (sym h.1) e.0)
first_is P i b never r (c ∷ cs) (inl f) (inr h) e = absurd (h.0 f.0)
first_is P i b never r (c ∷ cs) (inr f) (inr h) e = first_is P i b never r cs f h.1 e.1

-- a later one is behind it
later_found : (k i : ℕ) (b : BoundValue) (cs : List ChangeValue) → EachIs (λ e. k < e.0) cs → FoundBy i b cs → k ≤ i
later_found k i b [] e f = absurd f
later_found k i b (c ∷ cs) e (inl f) = let l = e.0 in let m = f.1 in omega (arith, l, m)
later_found k i b (c ∷ cs) e (inr f) = later_found k i b cs e.1 f

first_least : (i : ℕ) (b : BoundValue) (never r : ℕ) (cs : List ChangeValue) → InTurn cs → FoundBy i b cs
    → IsFirst b never cs r → r ≤ i
first_least i b never r [] t f h = absurd f
first_least i b never r (c ∷ cs) t (inl f) (inl h) = let e = h.1 in let m = f.1 in omega (arith, e, m)
first_least i b never r (c ∷ cs) t (inr f) (inl h) =
    let e = h.1 in let m = later_found c.0 i b cs t.0 f in omega (arith, e, m)
first_least i b never r (c ∷ cs) t (inl f) (inr h) = absurd (h.0 f.0)
first_least i b never r (c ∷ cs) t (inr f) (inr h) = first_least i b never r cs t.1 f h.1

-- ---- answers in code, place by place

devices_of : (ls : List FlatLast) (is : List ℕ) → length ls ≡ length is
    → ((i : ℕ) (l : FlatLast) → i < length is → (get_or ls i l).device ≡ get_or is i 0)
    → map (λ (l : LastBound). l.device) (map last_bound_in ls) ≡ is
devices_of [] [] e h = refl
devices_of [] (i ∷ is) e h = absurd (omega (arith, e))
devices_of (l ∷ ls) [] e h = absurd (omega (arith, e))
devices_of (l ∷ ls) (i ∷ is) e h =
    let q : l.device ≡ i = h 0 l (omega arith) in
    let r = devices_of ls is (omega (arith, e)) (λ k x b. h (suc k) x (omega (arith, b))) in
    rw (q, r) refl

each_of : (P : LastBound → Type 0) (ls : List FlatLast)
    → ((i : ℕ) (l : FlatLast) → i < length ls → P (last_bound_in (get_or ls i l))) → All P (map last_bound_in ls)
each_of P [] h i x b = absurd (omega (arith, b))
each_of P (l ∷ ls) h zero x b = h 0 l (omega arith)
each_of P (l ∷ ls) h (suc i) x b = each_of P ls (λ k y m. h (suc k) y (omega (arith, m))) i x (omega (arith, b))

module _ (U : Unfolding) (E : Envelope) (start : BoundTable) where
  -- so it is the first one of a bound that the device has in the last table
  first_has : (d n : ℕ) (b : BoundValue) (cs : List ChangeValue) (r : ℕ) → AreChanges U E start d (suc n) cs
      → HasBound U E start n d b → IsFirst b n cs r → HasBoundFirst U E start r d b
  first_has d n b cs r h has first =
      let f = h.found n b (omega arith) has in
      let few = first_is (λ c. c.0 < suc n) n b n r cs f first h.few in
      record {
        has = first_is (λ c. HasBound U E start c.0 d c.1) n b n r cs f first h.has;
        first = λ i l k.
            let m = first_least i b n r cs h.turn (h.found i b (omega (arith, l, few)) k) first in omega (arith, l, m);
      }

  -- in the last table each device that is always there has its export for sure
  pub last_there : (cap n d : ℕ) → 1 ≤ cap → MayLive E d → EndsAfter U E start cap n
      → HasBound U E start n d (rounds_within U E start n d).value
  last_there cap n d c m e = record { is = refl; there = by_sure (surely_lives E d) refl n e }
    where
      by_sure : (a : Bool) → surely_lives E d ≡ a → (n : ℕ) → EndsAfter U E start cap n
          → ((rounds_within U E start n d).sure ≡ true) ⊎ (surely_lives E d ≡ false)
      by_sure false q n e = inr q
      by_sure true q (suc n) e = inl q
      by_sure true q zero e = inl (sym (ap (λ (b : ExportBound). b.sure) (e.fixed (omega (arith, c)) d m)) ∙ q)

  module _ (cap n : ℕ) (starts bs : List FlatBound) (vs : List (Vec Change Global)) (some : 1 ≤ cap)
      (many : length starts ≡ length E.devices) (from : Stand U E start starts)
      (ended : HasEnded U E start cap n bs vs) where
    made_last : (d : ℕ) (first last : BoundValue) (cs : List ChangeValue) (l : FlatLast) → MayLive E d
        → first ≡ (start d).value → last ≡ (rounds_within U E start n d).value → AreChanges U E start d (suc n) cs
        → IsMade d (surely_lives E d) first last cs n l → IsLastBound U E start n (last_bound_in l)
    made_last d first last cs l m p q h made =
        let has = subst (HasBound U E start n d) (sym q) (last_there cap n d some m ended.ends) in
        let rounds = first_has d n last cs l.rounds h has made.rounds in
        record {
          bound = made.bound ∙ q ∙ ap (λ x. (rounds_within U E start n x).value) (sym made.device);
          rounds = subst (λ x. HasBoundFirst U E start l.rounds x (local_bound_in l.bound)) (sym made.device)
              (subst (HasBoundFirst U E start l.rounds d) (sym made.bound) rounds);
          before = made.before ∙ p ∙ ap (λ x. (start x).value) (sym made.device);
          away = made.away ∙ ap (λ x. not (surely_lives E x)) (sym made.device);
        }

    -- the answer at a place
    record IsGiven (i : ℕ) (l : FlatLast) : Type 0 where
      pub device : l.device ≡ device_at E i
      pub last : IsLastBound U E start n (last_bound_in l)

    pub made_lasts : (ls : List FlatLast) → length ls ≡ length E.devices → length vs ≡ length E.devices
        → AreMade E (values_in starts) bs vs n (length E.devices) ls
        → AreLastBounds U E start cap (map last_bound_in ls)
    made_lasts ls long wide made = record {
      rounds = n;
      ends = ended.ends;
      devices = let m = many_numbers E in
          devices_of ls (ids E.devices) (omega (arith, long, m)) (λ i l k. (at i l (omega (arith, k, m))).device);
      each = each_of (IsLastBound U E start n) ls (λ i l k. (at i l (omega (arith, k, long))).last);
    }
      where
        at : (i : ℕ) (l : FlatLast) → i < length E.devices → IsGiven i (get_or ls i l)
        at i l k = by_lists starts refl vs refl
          where
            by_lists : (ss : List FlatBound) → starts ≡ ss → (ws : List (Vec Change Global)) → vs ≡ ws
                → IsGiven i (get_or ls i l)
            by_lists [] q ws r = absurd (omega (arith, k, many, ap length q))
            by_lists (b ∷ ss) q [] r = absurd (omega (arith, k, wide, ap length r))
            by_lists (b ∷ ss) q (v ∷ ws) r =
                let value = λ (x : FlatBound). local_bound_in x.value in
                let first = get_or-map value starts i b (value b) (omega (arith, k, many)) in
                let m = made i (value b) b v l k in
                record {
                  device = m.device;
                  last = made_last (device_at E i) (get_or (values_in starts) i (value b))
                      (local_bound_in (get_or bs i b).value) (changes_in (get_or vs i v)) (get_or ls i l)
                      (at_lives E i k) (first ∙ ap (λ (x : ExportBound). x.value) (stand_at U E start starts from i b k))
                      (ap (λ (x : ExportBound). x.value)
                      (stand_at U E (rounds_within U E start n) bs ended.stands i b k)) (ended.changes i v k) m;
                }
