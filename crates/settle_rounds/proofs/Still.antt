-- Crates above cite this module: tables after rounds within an envelope, and that a round which changes nothing is the
-- last one that does.
use Rattle.std.proofs.Common.{◌≡◌, ℕ, zero, suc, ◌+◌, ◌-◌, refl, sym, ◌≤◌, ◌∙◌, ap, arith, subst}
use Rattle.std.proofs.Common.{true, ◌<◌, Bool, false, Some, None, if◌then◌else◌}
use Rattle.std.specs.Prelude.{nat_eq, nat_le}
use Rattle.fc_values.proofs.Rising.{strictly}
use Rattle.value_bounds.proofs.Values.{nat_same}
use Rattle.fc_nodes.specs.Program.{Unfolding}
use Rattle.bound_firing.specs.Exports.{ExportBound}
use Rattle.envelopes.specs.Envelopes.{Envelope, MayLive, IsEnvelope}
use Rattle.bound_rounds.specs.declared.rounds.RoundKind.{RoundKind}
use Rattle.bound_rounds.specs.declared.rounds.RoundKind.TheVariants as kind
use Rattle.bound_rounds.specs.Rounds.{BoundTable, table_within, rounds_within, IsFixedWithin}
use Rattle.bound_rounds.proofs.Closeness.{next_live}
use Rattle.settle_rounds.specs.Rounds.{is_reached}
use Rattle.settle_rounds.specs.Settling.{IsStillWithin, StillStaysWithin, first_reached, RoundsSettle}

-- ---- a round depends on the bounds of devices that may be there alone, and so do those after it

module _ (k : RoundKind) (U : Unfolding) (E : Envelope) (envelope : IsEnvelope E) (f g : BoundTable)
    (agree : (n : ℕ) → MayLive E n → f n ≡ g n) where
  pub after_agree : (j d : ℕ) → MayLive E d → table_within k U E f j d ≡ table_within k U E g j d
  after_agree zero d l = agree d l
  after_agree (suc j) d l =
      next_live k U E envelope (table_within k U E f j) (table_within k U E g j) (after_agree j) d l

  pub still_agree : IsFixedWithin k U E f → IsFixedWithin k U E g
  still_agree fixed d l = sym (next_live k U E envelope f g agree d l) ∙ fixed d l ∙ agree d l

module _ (k : RoundKind) (U : Unfolding) (E : Envelope) (envelope : IsEnvelope E) (start : BoundTable) (j : ℕ)
    (s : IsStillWithin k U E start j) where
  more : (m i : ℕ) → i ≡ j + m → (n : ℕ) → MayLive E n → table_within k U E start i n ≡ table_within k U E start j n
  more zero i e n l = let same : i ≡ j = omega (arith, e) in ap (λ x. table_within k U E start x n) same
  more (suc m) zero e n l = absurd (omega (arith, e))
  more (suc m) (suc i) e n l = next_live k U E envelope (table_within k U E start i) (table_within k U E start j)
      (more m i (omega (arith, e))) n l ∙ s n l

pub still_stays_within : StillStaysWithin
still_stays_within k U E envelope start j i s l d m = more k U E envelope start j s (i - j) i (omega (arith, l)) d m

-- ---- the first round after which a device is reached

apart_less : (j k : ℕ) → j ≤ k → nat_eq j k ≡ false → j < k
apart_less j k l t = strictly j k l (λ e. let e' : nat_eq k k ≡ false = subst (λ x. nat_eq x k ≡ false) e t in
    let s : nat_eq k k ≡ true = grind arith in absurd cc)

first_is : (b : ℕ → ExportBound) (n j k : ℕ) → ((i : ℕ) → i < j → is_reached (b i) ≡ false)
    → first_reached b n j ≡ Some k → (is_reached (b k) ≡ true) × ((i : ℕ) → i < k → is_reached (b i) ≡ false)
first_is b zero j k h e = absurd cc
first_is b (suc n) j k h e = by_test (is_reached (b j)) refl e (first_is b n (suc j) k)
  where
    up_to : is_reached (b j) ≡ false → (i : ℕ) → i < suc j → (c : Bool) → nat_eq i j ≡ c → is_reached (b i) ≡ false
    up_to q i l true t = let same = nat_same i j t in rw same q
    up_to q i l false t = h i (below i l t)
      where
        below : (i : ℕ) → i < suc j → nat_eq i j ≡ false → i < j
        below i l t = strictly i j (omega (arith, l)) (λ e. let e' : nat_eq j j ≡ false =
            subst (λ x. nat_eq x j ≡ false) e t in let s : nat_eq j j ≡ true = grind arith in absurd cc)

    by_test : (c : Bool) → is_reached (b j) ≡ c → (if c then Some j else first_reached b n (suc j)) ≡ Some k
        → (((i : ℕ) → i < suc j → is_reached (b i) ≡ false) → first_reached b n (suc j) ≡ Some k
        → (is_reached (b k) ≡ true) × ((i : ℕ) → i < k → is_reached (b i) ≡ false))
        → (is_reached (b k) ≡ true) × ((i : ℕ) → i < k → is_reached (b i) ≡ false)
    by_test true q g ih = let same : j ≡ k = cc in (
      subst (λ x. is_reached (b x) ≡ true) same q,
      subst
          (λ x. (i : ℕ) → i < x → is_reached (b i) ≡ false) same h,
    )
    by_test false q g ih = ih (λ i l. up_to q i l (nat_eq i j) refl) g

first_within : (b : ℕ → ExportBound) (n j k : ℕ) → first_reached b n j ≡ Some k → k < j + n
first_within b zero j k e = absurd cc
first_within b (suc n) j k e = by_test (is_reached (b j)) refl e (first_within b n (suc j) k)
  where
    by_test : (c : Bool) → is_reached (b j) ≡ c → (if c then Some j else first_reached b n (suc j)) ≡ Some k
        → (first_reached b n (suc j) ≡ Some k → k < suc j + n) → k < j + suc n
    by_test true q g ih = let same : j ≡ k = cc in omega (arith, same)
    by_test false q g ih = let l = ih g in omega (arith, l)

found_is : (b : ℕ → ExportBound) (n j k : ℕ) → j ≤ k → k < j + n → is_reached (b k) ≡ true
    → ((i : ℕ) → i < k → is_reached (b i) ≡ false) → first_reached b n j ≡ Some k
found_is b zero j k l m r h = absurd (omega (arith, l, m))
found_is b (suc n) j k l m r h = by_test (is_reached (b j)) refl (nat_eq j k) refl (found_is b n (suc j) k)
  where
    by_test : (c : Bool) → is_reached (b j) ≡ c → (e : Bool) → nat_eq j k ≡ e
        → (suc j ≤ k → k < suc j + n → is_reached (b k) ≡ true → ((i : ℕ) → i < k → is_reached (b i) ≡ false)
        → first_reached b n (suc j) ≡ Some k)
        → (if c then Some j else first_reached b n (suc j)) ≡ Some k
    by_test true q true t ih = let same = nat_same j k t in ap Some same
    by_test true q false t ih = let f = h j (apart_less j k l t) in absurd cc
    by_test false q true t ih = let same = nat_same j k t in let r' : is_reached (b j) ≡ true =
        subst (λ x. is_reached (b x) ≡ true) (sym same) r in absurd cc
    by_test false q false t ih = let g = apart_less j k l t in ih (omega (arith, g)) (omega (arith, m)) r h

none_is : (b : ℕ → ExportBound) → ((i : ℕ) → is_reached (b i) ≡ false) → (n j : ℕ) → first_reached b n j ≡ None
none_is b h zero j = refl
none_is b h (suc n) j = let q = h j in rw q (none_is b h n (suc j))

module _ (U : Unfolding) (E : Envelope) (envelope : IsEnvelope E) (start : BoundTable) (j d : ℕ)
    (s : IsStillWithin kind.Firing U E start j) (l : MayLive E d)
    (h : (i : ℕ) → i ≤ j → is_reached (rounds_within U E start i d) ≡ false) where
  never_is : (i : ℕ) → is_reached (rounds_within U E start i d) ≡ false
  never_is i = by_test (nat_le i j) refl
    where
      by_test : (c : Bool) → nat_le i j ≡ c → is_reached (rounds_within U E start i d) ≡ false
      by_test true q = h i (grind (arith, q))
      by_test false q =
          let e = still_stays_within kind.Firing U E envelope start j i s (grind (arith, q)) d l in
          ap is_reached e ∙ h j (omega arith)

pub rounds_settle : RoundsSettle
rounds_settle U E envelope start = record {
  settles = λ cap d k e.
      let r = first_is (λ j. rounds_within U E start j d) (suc cap) 0 k (λ i l. absurd (omega (arith, l))) e in
      record { reached = r.0; before = r.1 };
  within = λ cap d k e. let l = first_within (λ j. rounds_within U E start j d) (suc cap) 0 k e in omega (arith, l);
  found = λ cap d k l s. found_is (λ j. rounds_within U E start j d) (suc cap) 0 k (omega arith) (omega (arith, l))
      s.reached s.before;
  never = λ cap d j s l h.
      none_is (λ i. rounds_within U E start i d) (never_is U E envelope start j d s l h) (suc cap) 0;
}
