-- Crates above cite this module: values that are made of a start or of a neighbour's value and a step are least costs, and there are such values.
use Rattle.std.proofs.Common.{◌≡◌, ℕ, zero, suc, ◌+◌, ◌<◌, ◌≤◌, ◌⊎◌, inl, inr, min, List, [], ◌∷◌, ◌++◌, length, get_or, map, refl, sym, ap, subst, arith, Bool, true, false, cond, nat_eq, nat_lt}
use Rattle.std.specs.List.{All, Contains}
use Rattle.std.proofs.lemmas.List.Elements.{All-head, All-tail}
use Rattle.std.proofs.lemmas.Bool.{eqb-true, eq-eqb, ltb-true, ltb-false}
use Rattle.fc_values.specs.Fields.{Rises}
use Rattle.fc_values.proofs.Rising.{rises_tail, later_above}
use Rattle.walks.specs.declared.types.WalkStep.{WalkStep}
use Rattle.walks.specs.Walks.{CostsValue, StartsAt, IsDevice, StepsAt, WalkCosts, IsLeastCost, StepFits, IsCosts, has}
use Rattle.walks.specs.Laws.{IsFixed, FixedValuesAreLeast}
use Rattle.walks.proofs.Goes.{start_most, step_fits, cost_on, cost_alone, least_from}

-- ---- fixed values

module _ (C : CostsValue) (f : ℕ → ℕ) (co : IsCosts C) (fix : IsFixed C f) where
  made_onward : (n d s : ℕ) → ((m r : ℕ) → f m < n → StartsAt C m r → (w : List ℕ) × WalkCosts C w m (f m)) → f d < suc n → StartsAt C d s
      → (m k : ℕ) → StepsAt C m d k → f d ≡ min (f m + k) C.ceiling → StepFits C (record { from = m; to = d; cost = k })
      → (q : Bool) → nat_lt (f m) (f d) ≡ q → (w : List ℕ) × WalkCosts C w d (f d)
  made_onward n d s ih l h m k st e fits true t =
      let u = ltb-true (f m) (f d) t in
      let w = ih m fits.from.0 (omega arith) fits.from.1 in
      (w.0 ++ d ∷ [], subst (λ v. WalkCosts C (w.0 ++ d ∷ []) d v) (sym e) (cost_on C w.0 m (f m) d k w.1 st))
  made_onward n d s ih l h m k st e fits false t =
      let u = ltb-false (f m) (f d) t in
      let a = fits.some in
      let b = fix.start d s h in
      let c = start_most C co d s h in
      let g : f d ≡ s = omega arith in
      (d ∷ [], subst (λ v. WalkCosts C (d ∷ []) d v) (sym g) (cost_alone C d s h c))

  walks_below : (n d s : ℕ) → f d < n → StartsAt C d s → (w : List ℕ) × WalkCosts C w d (f d)
  walks_below zero d s l h = absurd (omega arith)
  walks_below (suc n) d s l h =
      elim (fix.made d s h) [
        | inl e ↦ (d ∷ [], subst (λ v. WalkCosts C (d ∷ []) d v) (sym e) (cost_alone C d s h (start_most C co d s h)))
        | inr m ↦ made_onward n d s (walks_below n) l h m.0 m.1 m.2 m.3 (step_fits C co m.0 d m.1 m.2) (nat_lt (f m.0) (f d)) refl
      ]

  fixed_least : (d : ℕ) → IsDevice C d → IsLeastCost C d (f d)
  fixed_least d h = least_from C f co fix.start fix.step d (walks_below (suc (f d)) d h.0 (omega arith) h.1)

pub fixed_values : FixedValuesAreLeast
fixed_values C f co fix d h = fixed_least C f co fix d h

-- ---- the value of rising pairs

pub number_get : (ys : List (ℕ × ℕ)) (i : ℕ) (y : ℕ × ℕ) → i < length ys → get_or (map (λ (z : ℕ × ℕ). z.0) ys) i 0 ≡ (get_or ys i y).0
number_get [] i y m = absurd (omega arith)
number_get (z ∷ ys) zero y m = refl
number_get (z ∷ ys) (suc i) y m = number_get ys i y (omega arith)

pub numbers_length : (ys : List (ℕ × ℕ)) → length (map (λ (z : ℕ × ℕ). z.0) ys) ≡ length ys
numbers_length [] = refl
numbers_length (y ∷ ys) = ap suc (numbers_length ys)

has_later : (x : ℕ × ℕ) (xs : List (ℕ × ℕ)) (d s k : ℕ) → Rises (map (λ (y : ℕ × ℕ). y.0) (x ∷ xs)) → k < length xs → get_or xs k (d, s) ≡ (d, s)
    → has xs d ≡ s → (q : Bool) → nat_eq x.0 d ≡ q → cond q x.1 (has xs d) ≡ s
has_later x xs d s k r l e ih true t =
    let a = eqb-true x.0 d t in
    let b = later_above x.0 (map (λ (z : ℕ × ℕ). z.0) xs) r k (omega (arith, numbers_length xs)) in
    let c = number_get xs k (d, s) l in
    let g : (get_or xs k (d, s)).0 ≡ d = ap (λ (y : ℕ × ℕ). y.0) e in
    absurd (omega arith)
has_later x xs d s k r l e ih false t = ih

pub has_here : (xs : List (ℕ × ℕ)) (d s k : ℕ) → Rises (map (λ (x : ℕ × ℕ). x.0) xs) → k < length xs → get_or xs k (d, s) ≡ (d, s) → has xs d ≡ s
has_here [] d s k r l e = absurd (omega arith)
has_here (x ∷ xs) d s zero r l e = rw (eq-eqb x.0 d (ap (λ (y : ℕ × ℕ). y.0) e)) (ap (λ (y : ℕ × ℕ). y.1) e)
has_here (x ∷ xs) d s (suc k) r l e =
    has_later x xs d s k r (omega arith) e (has_here xs d s k (rises_tail x.0 (map (λ (z : ℕ × ℕ). z.0) xs) r) (omega arith) e) (nat_eq x.0 d) refl

pub has_start : (C : CostsValue) → IsCosts C → (d s : ℕ) → StartsAt C d s → has C.start d ≡ s
has_start C co d s h = has_here C.start d s h.0 co.rising h.1 h.2

-- ---- rounds: each value is made anew of the start and of the values before

abbrev lowered : CostsValue → (ℕ → ℕ) → ℕ → List WalkStep → ℕ → ℕ
lowered C f base [] d = base
lowered C f base (s ∷ ss) d = cond (nat_eq s.to d) (min (min (f s.from + s.cost) C.ceiling) (lowered C f base ss d)) (lowered C f base ss d)

abbrev rounds : CostsValue → ℕ → ℕ → ℕ
rounds C zero d = has C.start d
rounds C (suc k) d = lowered C (rounds C k) (has C.start d) C.steps d

-- with what a step adds, values that are the same below k become the same below k + 1
lowered_near : (C : CostsValue) (f g : ℕ → ℕ) (k base : ℕ) → ((n : ℕ) → min (f n) k ≡ min (g n) k) → (ss : List WalkStep) → All (StepFits C) ss
    → (d : ℕ) → min (lowered C f base ss d) (suc k) ≡ min (lowered C g base ss d) (suc k)
lowered_near C f g k base h [] a d = refl
lowered_near C f g k base h (s ∷ ss) a d =
    by_test (nat_eq s.to d) (All-head (StepFits C) s ss a).some (h s.from) (lowered_near C f g k base h ss (All-tail (StepFits C) s ss a) d)
  where
    by_test : (q : Bool) → 1 ≤ s.cost → min (f s.from) k ≡ min (g s.from) k
        → min (lowered C f base ss d) (suc k) ≡ min (lowered C g base ss d) (suc k)
        → min (cond q (min (min (f s.from + s.cost) C.ceiling) (lowered C f base ss d)) (lowered C f base ss d)) (suc k)
        ≡ min (cond q (min (min (g s.from + s.cost) C.ceiling) (lowered C g base ss d)) (lowered C g base ss d)) (suc k)
    by_test true u v w = omega arith
    by_test false u v w = w

rounds_near : (C : CostsValue) → IsCosts C → (k n : ℕ) → min (rounds C k n) k ≡ min (rounds C (suc k) n) k
rounds_near C co zero n = omega arith
rounds_near C co (suc k) n = lowered_near C (rounds C k) (rounds C (suc k)) k (has C.start n) (rounds_near C co k) C.steps co.steps n

lowered_most : (C : CostsValue) (f : ℕ → ℕ) (base : ℕ) (ss : List WalkStep) (d : ℕ) → lowered C f base ss d ≤ base
lowered_most C f base [] d = omega arith
lowered_most C f base (s ∷ ss) d = by_test (nat_eq s.to d) (lowered_most C f base ss d)
  where
    by_test : (q : Bool) → lowered C f base ss d ≤ base
        → cond q (min (min (f s.from + s.cost) C.ceiling) (lowered C f base ss d)) (lowered C f base ss d) ≤ base
    by_test true u = omega arith
    by_test false u = u

lowered_step : (C : CostsValue) (f : ℕ → ℕ) (base : ℕ) (ss : List WalkStep) (n d k i : ℕ) → i < length ss
    → get_or ss i (record { from = n; to = d; cost = k }) ≡ record { from = n; to = d; cost = k } → lowered C f base ss d ≤ min (f n + k) C.ceiling
lowered_step C f base [] n d k i l e = absurd (omega arith)
lowered_step C f base (s ∷ ss) n d k zero l e =
    let a : s.from ≡ n = ap (λ (t : WalkStep). t.from) e in
    let b : s.cost ≡ k = ap (λ (t : WalkStep). t.cost) e in
    let g : f s.from ≡ f n = ap f a in
    rw (eq-eqb s.to d (ap (λ (t : WalkStep). t.to) e)) (omega arith)
lowered_step C f base (s ∷ ss) n d k (suc i) l e = by_test (nat_eq s.to d) (lowered_step C f base ss n d k i (omega arith) e)
  where
    by_test : (q : Bool) → lowered C f base ss d ≤ min (f n + k) C.ceiling
        → cond q (min (min (f s.from + s.cost) C.ceiling) (lowered C f base ss d)) (lowered C f base ss d) ≤ min (f n + k) C.ceiling
    by_test true u = omega arith
    by_test false u = u

-- what a lowered value is made of
abbrev IsMade : CostsValue → (ℕ → ℕ) → ℕ → List WalkStep → ℕ → ℕ → Type 0
IsMade C f base ss d v = (v ≡ base) ⊎ ((n : ℕ) × (k : ℕ) × Contains ss (record { from = n; to = d; cost = k }) × (v ≡ min (f n + k) C.ceiling))

made_later : (C : CostsValue) (f : ℕ → ℕ) (base : ℕ) (s : WalkStep) (ss : List WalkStep) (d v : ℕ) → IsMade C f base ss d v → IsMade C f base (s ∷ ss) d v
made_later C f base s ss d v (inl e) = inl e
made_later C f base s ss d v (inr m) = inr (m.0, m.1, (suc m.2.0, (let h = m.2.1 in omega arith), m.2.2), m.3)

lowered_made : (C : CostsValue) (f : ℕ → ℕ) (base : ℕ) (ss : List WalkStep) (d : ℕ) → IsMade C f base ss d (lowered C f base ss d)
lowered_made C f base [] d = inl refl
lowered_made C f base (s ∷ ss) d = by_test (nat_eq s.to d) refl (nat_lt (lowered C f base ss d) (min (f s.from + s.cost) C.ceiling)) refl (made_later C f base s ss d (lowered C f base ss d) (lowered_made C f base ss d))
  where
    by_test : (q : Bool) → nat_eq s.to d ≡ q → (p : Bool) → nat_lt (lowered C f base ss d) (min (f s.from + s.cost) C.ceiling) ≡ p
        → IsMade C f base (s ∷ ss) d (lowered C f base ss d)
        → IsMade C f base (s ∷ ss) d (cond q (min (min (f s.from + s.cost) C.ceiling) (lowered C f base ss d)) (lowered C f base ss d))
    by_test true t true p ih =
        let a = ltb-true (lowered C f base ss d) (min (f s.from + s.cost) C.ceiling) p in
        let e : min (min (f s.from + s.cost) C.ceiling) (lowered C f base ss d) ≡ lowered C f base ss d = omega arith in
        subst (λ v. IsMade C f base (s ∷ ss) d v) (sym e) ih
    by_test true t false p ih =
        let a = ltb-false (lowered C f base ss d) (min (f s.from + s.cost) C.ceiling) p in
        let e : min (min (f s.from + s.cost) C.ceiling) (lowered C f base ss d) ≡ min (f s.from + s.cost) C.ceiling = omega arith in
        let b = eqb-true s.to d t in
        inr (s.from, s.cost, (0, omega arith, ap (λ m. record { from = s.from; to = m; cost = s.cost }) b), e)
    by_test false t p u ih = ih

-- ---- the values after as many rounds as the ceiling are fixed

abbrev pub final : CostsValue → ℕ → ℕ
final C d = rounds C C.ceiling d

has_most : (m : ℕ) (xs : List (ℕ × ℕ)) → All (λ (x : ℕ × ℕ). x.1 ≤ m) xs → (d : ℕ) → has xs d ≤ m
has_most m [] a d = omega arith
has_most m (x ∷ xs) a d = by_test (nat_eq x.0 d) (All-head (λ (y : ℕ × ℕ). y.1 ≤ m) x xs a) (has_most m xs (All-tail (λ (y : ℕ × ℕ). y.1 ≤ m) x xs a) d)
  where
    by_test : (q : Bool) → x.1 ≤ m → has xs d ≤ m → cond q x.1 (has xs d) ≤ m
    by_test true u v = u
    by_test false u v = v

rounds_most : (C : CostsValue) → IsCosts C → (k d : ℕ) → rounds C k d ≤ has C.start d
rounds_most C co zero d = omega arith
rounds_most C co (suc k) d = lowered_most C (rounds C k) (has C.start d) C.steps d

final_again : (C : CostsValue) → IsCosts C → (d : ℕ) → final C d ≡ lowered C (final C) (has C.start d) C.steps d
final_again C co d =
    let a = has_most C.ceiling C.start co.starts d in
    let b = rounds_most C co C.ceiling d in
    let c = rounds_most C co (suc C.ceiling) d in
    let e = rounds_near C co C.ceiling d in
    omega arith

pub final_fixed : (C : CostsValue) → IsCosts C → IsFixed C (final C)
final_fixed C co = record {
  start = λ d s h. let a = rounds_most C co C.ceiling d in let e = has_start C co d s h in omega arith;
  step = λ n d k h. let a = lowered_step C (final C) (has C.start d) C.steps n d k h.0 h.1 h.2 in let e = final_again C co d in omega arith;
  made = λ d s h. subst (λ v. (v ≡ s) ⊎ ((n : ℕ) × (k : ℕ) × StepsAt C n d k × (v ≡ min (final C n + k) C.ceiling))) (sym (final_again C co d))
      (subst (λ b. (lowered C (final C) (has C.start d) C.steps d ≡ b) ⊎ ((n : ℕ) × (k : ℕ) × StepsAt C n d k × (lowered C (final C) (has C.start d) C.steps d ≡ min (final C n + k) C.ceiling))) (has_start C co d s h)
      (lowered_made C (final C) (has C.start d) C.steps d));
}

pub final_least : (C : CostsValue) → IsCosts C → (d : ℕ) → IsDevice C d → IsLeastCost C d (final C d)
final_least C co d h = fixed_values C (final C) co (final_fixed C co) d h
