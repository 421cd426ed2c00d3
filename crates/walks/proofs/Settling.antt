-- Crates above cite this module: a step that is taken keeps what is known of the values, and falls.
use Rattle.std.proofs.Common.{◌≡◌, ◌≢◌, ℕ, zero, suc, ◌+◌, ◌<◌, ◌≤◌, ◌⊎◌, inl, inr, min, List, [], ◌∷◌, ◌++◌, length, get_or, set, drop, refl, sym, ◌∙◌, ap, subst, arith, Bool, true, false, nat_eq, length-set, get_or-set_same, get_or-set_other}
use Rattle.std.specs.List.{All, AllWithin, Contains, sum}
use Rattle.std.specs.List.Sorted.{IsPermutation}
use Rattle.std.specs.declared.cmp.Reverse.{Reverse}
use Rattle.std.proofs.lemmas.Bool.{eqb-true, eqb-false}
use Rattle.std.proofs.lemmas.List.{drop_more, get_or_default}
use Rattle.std.proofs.lemmas.List.Elements.{All-contains, All-cons, All-tail, All-head, Contains-get_or}
use Rattle.std.proofs.lemmas.List.Sorted.{All-permutation, Contains-permutation, length_permutation}
use Rattle.std.proofs.lemmas.List.Sums.{sum_by-set}
use Rattle.walks.specs.declared.types.WalkStep.{WalkStep}
use Rattle.walks.specs.Walks.{CostsValue, StartsAt, IsDevice, StepsAt, WalkCosts, StepFits, IsCosts}
use Rattle.walks.specs.Tables.{Queue, AreCosts, IsSettled, Waits, IsCovered, AreDevices, left, IsTaken, settled, lowered, AreLeast}
use Rattle.walks.proofs.Goes.{start_most, cost_on, cost_alone, least_from}

first_or : {X : Type 0} (x : X) (xs : List X) (y : X) (k : ℕ) → k < length (x ∷ xs) → get_or (x ∷ xs) k y ≡ y → (x ≡ y) ⊎ Contains xs y
first_or x xs y zero l e = inl e
first_or x xs y (suc k) l e = inr (k, omega arith, e)

pub contains_first : {X : Type 0} (x : X) (xs : List X) (y : X) → Contains (x ∷ xs) y → (x ≡ y) ⊎ Contains xs y
contains_first x xs y h = first_or x xs y h.0 h.1 h.2

pub contains_later : {X : Type 0} (x : X) (xs : List X) (y : X) → Contains xs y → Contains (x ∷ xs) y
contains_later x xs y h = (suc h.0, (let l = h.1 in omega arith), h.2)

pub contains_here : {X : Type 0} (x : X) (xs : List X) → Contains (x ∷ xs) x
contains_here x xs = (0, omega arith, refl)

-- ---- one step

module _ (C : CostsValue) (co : IsCosts C) (s : WalkStep) (in_steps : Contains C.steps s) (vs : List ℕ) (costs : AreCosts C vs) where
  pub fits : StepFits C s
  fits = All-contains (StepFits C) C.steps s co.steps in_steps

  pub to_within : s.to < length vs
  to_within = costs.within s.to fits.to

  pub from_within : s.from < length vs
  from_within = costs.within s.from fits.from

  lowered_walk : (v : ℕ) → v ≡ min (get_or vs s.from 0 + s.cost) C.ceiling → (w : List ℕ) × WalkCosts C w s.to v
  lowered_walk v e =
      let w = costs.walk s.from fits.from in
      (w.0 ++ s.to ∷ [], subst (λ x. WalkCosts C (w.0 ++ s.to ∷ []) s.to x) (sym e) (cost_on C w.0 s.from (get_or vs s.from 0) s.to s.cost w.1 in_steps))

  lowered_costs : (v : ℕ) → v ≡ min (get_or vs s.from 0 + s.cost) C.ceiling → v < get_or vs s.to 0 → AreCosts C (set vs s.to v)
  lowered_costs v e l = record {
    within = λ d h. let k = costs.within d h in omega (arith, length-set vs s.to v);
    walk = λ d h. walk_at d h (nat_eq d s.to) refl;
    start = λ d r h. start_at d r h (nat_eq d s.to) refl;
  }
    where
      walk_at : (d : ℕ) → IsDevice C d → (q : Bool) → nat_eq d s.to ≡ q → (w : List ℕ) × WalkCosts C w d (get_or (set vs s.to v) d 0)
      walk_at d h true t =
          let k = eqb-true d s.to t in
          let w = lowered_walk v e in
          (w.0, subst (λ x. WalkCosts C w.0 x (get_or (set vs s.to v) x 0)) (sym k) (subst (λ x. WalkCosts C w.0 s.to x) (sym (get_or-set_same vs s.to v 0 to_within)) w.1))
      walk_at d h false t =
          let w = costs.walk d h in
          (w.0, subst (λ x. WalkCosts C w.0 d x) (sym (get_or-set_other vs s.to d v 0 (eqb-false d s.to t))) w.1)

      start_at : (d r : ℕ) → StartsAt C d r → (q : Bool) → nat_eq d s.to ≡ q → get_or (set vs s.to v) d 0 ≤ r
      start_at d r h true t =
          let k = eqb-true d s.to t in
          let a = costs.start d r h in
          let b : get_or (set vs s.to v) d 0 ≡ v = ap (λ x. get_or (set vs s.to v) x 0) k ∙ get_or-set_same vs s.to v 0 to_within in
          let g : get_or vs d 0 ≡ get_or vs s.to 0 = ap (λ x. get_or vs x 0) k in
          omega arith
      start_at d r h false t = let a = costs.start d r h in let b = get_or-set_other vs s.to d v 0 (eqb-false d s.to t) in omega arith

  pub taken_costs : (hs : Queue) (us : List ℕ) (ws : Queue) → IsTaken C s vs hs us ws → AreCosts C us
  taken_costs hs us ws (settled i e f) = subst (λ xs. AreCosts C xs) (sym e) costs
  taken_costs hs us ws (lowered v e l q p) = subst (λ xs. AreCosts C xs) (sym q) (lowered_costs v e l)

  pub taken_devices : (hs : Queue) (us : List ℕ) (ws : Queue) → AreDevices C hs → IsTaken C s vs hs us ws → AreDevices C ws
  taken_devices hs us ws a (settled i e f) = subst (λ xs. AreDevices C xs) (sym f) a
  taken_devices hs us ws a (lowered v e l q p) =
      All-permutation (λ (r : Reverse (ℕ × ℕ)). IsDevice C r.0.1) (record { 0 = (v, s.to) } ∷ hs) ws p
      (All-cons (λ (r : Reverse (ℕ × ℕ)). IsDevice C r.0.1) (record { 0 = (v, s.to) }) hs fits.to a)

  lowered_waits : (v : ℕ) (hs ws : Queue) (n : ℕ) → IsPermutation (record { 0 = (v, s.to) } ∷ hs) ws → n ≡ s.to → Waits (set vs s.to v) ws n
  lowered_waits v hs ws n p k =
      subst (λ x. Waits (set vs s.to v) ws x) (sym k)
      (subst (λ x. Contains ws (record { 0 = (x, s.to) })) (sym (get_or-set_same vs s.to v 0 to_within))
      (Contains-permutation (record { 0 = (v, s.to) } ∷ hs) ws (record { 0 = (v, s.to) }) p (contains_here (record { 0 = (v, s.to) }) hs)))

  lowered_settled : (v : ℕ) → v < get_or vs s.to 0 → (t : WalkStep) → t.from ≢ s.to → IsSettled C vs t → IsSettled C (set vs s.to v) t
  lowered_settled v l t n h =
      let a = get_or-set_other vs s.to t.from v 0 n in
      by_test (nat_eq t.to s.to) refl a
    where
      by_test : (q : Bool) → nat_eq t.to s.to ≡ q → get_or (set vs s.to v) t.from 0 ≡ get_or vs t.from 0 → IsSettled C (set vs s.to v) t
      by_test true e a =
          let k = eqb-true t.to s.to e in
          let b : get_or (set vs s.to v) t.to 0 ≡ v = ap (λ x. get_or (set vs s.to v) x 0) k ∙ get_or-set_same vs s.to v 0 to_within in
          let g : get_or vs t.to 0 ≡ get_or vs s.to 0 = ap (λ x. get_or vs x 0) k in
          omega arith
      by_test false e a = let b = get_or-set_other vs s.to t.to v 0 (eqb-false t.to s.to e) in omega arith

  lowered_covered : (v : ℕ) (hs ws : Queue) → v < get_or vs s.to 0 → IsPermutation (record { 0 = (v, s.to) } ∷ hs) ws
      → (t : WalkStep) → IsCovered C vs hs t → (q : Bool) → nat_eq t.from s.to ≡ q → IsCovered C (set vs s.to v) ws t
  lowered_covered v hs ws l p t h true e = inr (lowered_waits v hs ws t.from p (eqb-true t.from s.to e))
  lowered_covered v hs ws l p t (inl h) false e = inl (lowered_settled v l t (eqb-false t.from s.to e) h)
  lowered_covered v hs ws l p t (inr h) false e =
      inr (subst (λ x. Contains ws (record { 0 = (x, t.from) })) (sym (get_or-set_other vs s.to t.from v 0 (eqb-false t.from s.to e)))
      (Contains-permutation (record { 0 = (v, s.to) } ∷ hs) ws (record { 0 = (get_or vs t.from 0, t.from) }) p
      (contains_later (record { 0 = (v, s.to) }) hs (record { 0 = (get_or vs t.from 0, t.from) }) h)))

  pub taken_covered : (hs : Queue) (us : List ℕ) (ws : Queue) → IsTaken C s vs hs us ws → (t : WalkStep) → IsCovered C vs hs t → IsCovered C us ws t
  taken_covered hs us ws (settled i e f) t h = subst (λ xs. IsCovered C xs ws t) (sym e) (subst (λ xs. IsCovered C vs xs t) (sym f) h)
  taken_covered hs us ws (lowered v e l q p) t h =
      subst (λ xs. IsCovered C xs ws t) (sym q) (lowered_covered v hs ws l p t h (nat_eq t.from s.to) refl)

  lowered_itself : (v : ℕ) (hs ws : Queue) → v ≡ min (get_or vs s.from 0 + s.cost) C.ceiling → IsPermutation (record { 0 = (v, s.to) } ∷ hs) ws
      → (q : Bool) → nat_eq s.from s.to ≡ q → IsCovered C (set vs s.to v) ws s
  lowered_itself v hs ws e p true t = inr (lowered_waits v hs ws s.from p (eqb-true s.from s.to t))
  lowered_itself v hs ws e p false t =
      let a = get_or-set_same vs s.to v 0 to_within in
      let b = get_or-set_other vs s.to s.from v 0 (eqb-false s.from s.to t) in
      inl (omega arith)

  pub taken_itself : (hs : Queue) (us : List ℕ) (ws : Queue) → IsTaken C s vs hs us ws → IsCovered C us ws s
  taken_itself hs us ws (settled i e f) = inl (subst (λ xs. IsSettled C xs s) (sym e) i)
  taken_itself hs us ws (lowered v e l q p) = subst (λ xs. IsCovered C xs ws s) (sym q) (lowered_itself v hs ws e p (nat_eq s.from s.to) refl)

  pub taken_left : (hs : Queue) (us : List ℕ) (ws : Queue) → IsTaken C s vs hs us ws → left us ws ≤ left vs hs
  taken_left hs us ws (settled i e f) =
      subst (λ xs. left xs ws ≤ left vs hs) (sym e) (subst (λ xs. left vs xs ≤ left vs hs) (sym f) (omega arith))
  taken_left hs us ws (lowered v e l q p) =
      let a : sum (set vs s.to v) + get_or vs s.to 0 ≡ sum vs + v = sum_by-set (λ x. x) vs s.to v 0 to_within in
      let b : length ws ≡ suc (length hs) = length_permutation (record { 0 = (v, s.to) } ∷ hs) ws p in
      let g : left (set vs s.to v) ws ≤ left vs hs = omega arith in
      subst (λ xs. left xs ws ≤ left vs hs) (sym q) g

-- ---- the steps from a device, one after another

-- what is covered while the steps of a part are taken from the front
abbrev pub PartCovered : CostsValue → List ℕ → Queue → List WalkStep → Type 0
PartCovered C vs hs part = All (λ (t : WalkStep). IsCovered C vs hs t ⊎ Contains part t) C.steps

pub part_begins : (C : CostsValue) (vs : List ℕ) (hs : Queue) (part : List WalkStep) (d : ℕ)
    → ((to cost : ℕ) → StepsAt C d to cost → Contains part (record { from = d; to = to; cost = cost }))
    → All (λ (t : WalkStep). IsCovered C vs hs t ⊎ (t.from ≡ d)) C.steps → PartCovered C vs hs part
part_begins C vs hs part d all h k t l = at (get_or C.steps k t) (k, l, same C.steps k t l) (h k t l)
  where
    same : (xs : List WalkStep) (i : ℕ) (x : WalkStep) → i < length xs → get_or xs i (get_or xs i x) ≡ get_or xs i x
    same [] i x m = absurd (omega arith)
    same (y ∷ xs) zero x m = refl
    same (y ∷ xs) (suc i) x m = same xs i x (omega arith)

    at : (s : WalkStep) → Contains C.steps s → IsCovered C vs hs s ⊎ (s.from ≡ d) → IsCovered C vs hs s ⊎ Contains part s
    at s m (inl c) = inl c
    at s m (inr e) =
        inr (subst (λ x. Contains part (record { from = x; to = s.to; cost = s.cost })) (sym e)
        (all s.to s.cost (subst (λ x. Contains C.steps (record { from = x; to = s.to; cost = s.cost })) e m)))

pub part_ends : (C : CostsValue) (vs : List ℕ) (hs : Queue) (part : List WalkStep) (i : ℕ) → length part ≤ i → PartCovered C vs hs (drop i part)
    → All (IsCovered C vs hs) C.steps
part_ends C vs hs part i l h k t m = at (get_or C.steps k t) (h k t m)
  where
    none : (n : ℕ) (xs : List WalkStep) → length xs ≤ n → length (drop n xs) ≡ 0
    none zero [] q = refl
    none zero (x ∷ xs) q = absurd (omega arith)
    none (suc n) [] q = refl
    none (suc n) (x ∷ xs) q = none n xs (omega arith)

    at : (s : WalkStep) → IsCovered C vs hs s ⊎ Contains (drop i part) s → IsCovered C vs hs s
    at s (inl c) = c
    at s (inr c) = let a = c.1 in let b = none i part l in absurd (omega arith)

pub part_more : (C : CostsValue) (vs : List ℕ) (hs : Queue) (us : List ℕ) (ws : Queue) (part : List WalkStep) (i : ℕ) (s none : WalkStep) → i < length part → get_or part i none ≡ s
    → ((t : WalkStep) → IsCovered C vs hs t → IsCovered C us ws t) → IsCovered C us ws s → PartCovered C vs hs (drop i part) → PartCovered C us ws (drop (i + 1) part)
part_more C vs hs us ws part i s none l e keep itself h k t m = at (get_or C.steps k t) (h k t m)
  where
    at : (x : WalkStep) → IsCovered C vs hs x ⊎ Contains (drop i part) x → IsCovered C us ws x ⊎ Contains (drop (i + 1) part) x
    at x (inl c) = inl (keep x c)
    at x (inr c) =
        elim (contains_first (get_or part i none) (drop (i + 1) part) x (subst (λ xs. Contains xs x) (drop_more part i none l) c)) [
          | inl f ↦ inl (subst (λ y. IsCovered C us ws y) (sym e ∙ f) itself)
          | inr g ↦ inr g
        ]

-- ---- a device that waits no longer

pub popped : (C : CostsValue) (vs : List ℕ) (hs ws : Queue) (v d : ℕ) → IsPermutation hs (record { 0 = (v, d) } ∷ ws)
    → All (IsCovered C vs hs) C.steps → All (λ (t : WalkStep). IsCovered C vs ws t ⊎ (t.from ≡ d)) C.steps
popped C vs hs ws v d p h k t m = at (get_or C.steps k t) (h k t m)
  where
    at : (x : WalkStep) → IsCovered C vs hs x → IsCovered C vs ws x ⊎ (x.from ≡ d)
    at x (inl c) = inl (inl c)
    at x (inr c) =
        elim (contains_first (record { 0 = (v, d) }) ws (record { 0 = (get_or vs x.from 0, x.from) })
        (Contains-permutation hs (record { 0 = (v, d) } ∷ ws) (record { 0 = (get_or vs x.from 0, x.from) }) p c)) [
          | inl f ↦ inr (sym (ap (λ (r : Reverse (ℕ × ℕ)). r.0.1) f))
          | inr g ↦ inl (inr g)
        ]

pub popped_stale : (C : CostsValue) (vs : List ℕ) (hs ws : Queue) (v d : ℕ) → IsPermutation hs (record { 0 = (v, d) } ∷ ws)
    → (get_or vs d 0 ≡ v → ⊥) → All (IsCovered C vs hs) C.steps → All (IsCovered C vs ws) C.steps
popped_stale C vs hs ws v d p stale h k t m = at (get_or C.steps k t) (h k t m)
  where
    at : (x : WalkStep) → IsCovered C vs hs x → IsCovered C vs ws x
    at x (inl c) = inl c
    at x (inr c) =
        elim (contains_first (record { 0 = (v, d) }) ws (record { 0 = (get_or vs x.from 0, x.from) })
        (Contains-permutation hs (record { 0 = (v, d) } ∷ ws) (record { 0 = (get_or vs x.from 0, x.from) }) p c)) [
          | inl f ↦ absurd (stale (ap (λ y. get_or vs y 0) (ap (λ (r : Reverse (ℕ × ℕ)). r.0.1) f) ∙ sym (ap (λ (r : Reverse (ℕ × ℕ)). r.0.0) f)))
          | inr g ↦ inr g
        ]

pub popped_devices : (C : CostsValue) (hs ws : Queue) (v d : ℕ) → IsPermutation hs (record { 0 = (v, d) } ∷ ws) → AreDevices C hs → IsDevice C d × AreDevices C ws
popped_devices C hs ws v d p a =
    let b = All-permutation (λ (r : Reverse (ℕ × ℕ)). IsDevice C r.0.1) hs (record { 0 = (v, d) } ∷ ws) p a in
    (All-head (λ (r : Reverse (ℕ × ℕ)). IsDevice C r.0.1) (record { 0 = (v, d) }) ws b, All-tail (λ (r : Reverse (ℕ × ℕ)). IsDevice C r.0.1) (record { 0 = (v, d) }) ws b)

-- ---- the beginning and the end

pub starts_are_costs : (C : CostsValue) → IsCosts C → (vs : List ℕ) → All (λ (d : ℕ × ℕ). (d.0 < length vs) × (get_or vs d.0 0 ≡ d.1)) C.start → AreCosts C vs
starts_are_costs C co vs a = record {
  within = λ d h. (All-contains (λ (x : ℕ × ℕ). (x.0 < length vs) × (get_or vs x.0 0 ≡ x.1)) C.start (d, h.0) a h.1).0;
  walk = λ d h.
      let e = (All-contains (λ (x : ℕ × ℕ). (x.0 < length vs) × (get_or vs x.0 0 ≡ x.1)) C.start (d, h.0) a h.1).1 in
      (d ∷ [], subst (λ x. WalkCosts C (d ∷ []) d x) (sym e) (cost_alone C d h.0 h.1 (start_most C co d h.0 h.1)));
  start = λ d s h. let e = (All-contains (λ (x : ℕ × ℕ). (x.0 < length vs) × (get_or vs x.0 0 ≡ x.1)) C.start (d, s) a h).1 in omega arith;
}

-- each device waits with its start
pub all_wait : (C : CostsValue) → IsCosts C → (vs : List ℕ) (hs : Queue) → All (λ (d : ℕ × ℕ). (d.0 < length vs) × (get_or vs d.0 0 ≡ d.1)) C.start
    → All (λ (d : ℕ × ℕ). Contains hs (record { 0 = (d.1, d.0) })) C.start → All (IsCovered C vs hs) C.steps
all_wait C co vs hs a w k t m =
    let s = get_or C.steps k t in
    let dev = (co.steps k t m).from in
    let e = (All-contains (λ (x : ℕ × ℕ). (x.0 < length vs) × (get_or vs x.0 0 ≡ x.1)) C.start (s.from, dev.0) a dev.1).1 in
    inr (subst (λ x. Contains hs (record { 0 = (x, s.from) })) (sym e) (All-contains (λ (d : ℕ × ℕ). Contains hs (record { 0 = (d.1, d.0) })) C.start (s.from, dev.0) w dev.1))

pub settled_least : (C : CostsValue) → IsCosts C → (vs : List ℕ) (hs : Queue) → length hs ≡ 0 → AreCosts C vs → All (IsCovered C vs hs) C.steps → AreLeast C vs
settled_least C co vs hs l a h d dev = (
  a.within d dev,
  least_from C (λ x. get_or vs x 0) co a.start
      (λ n e k m. at n e k (All-contains (IsCovered C vs hs) C.steps (record { from = n; to = e; cost = k }) h m)) d (a.walk d dev),
)
  where
    at : (n e k : ℕ) → IsCovered C vs hs (record { from = n; to = e; cost = k }) → get_or vs e 0 ≤ min (get_or vs n 0 + k) C.ceiling
    at n e k (inl c) = c
    at n e k (inr c) = let b = c.1 in absurd (omega arith)

-- ---- the devices that wait at the beginning

pub waits_more : (xs : List (ℕ × ℕ)) (hs ws : Queue) (i : ℕ) → i < length xs
    → IsPermutation (record { 0 = ((get_or xs i (0, 0)).1, (get_or xs i (0, 0)).0) } ∷ hs) ws
    → AllWithin (λ (d : ℕ × ℕ). Contains hs (record { 0 = (d.1, d.0) })) xs 0 i → AllWithin (λ (d : ℕ × ℕ). Contains ws (record { 0 = (d.1, d.0) })) xs 0 (i + 1)
waits_more xs hs ws i l p a k d z m = by_test (nat_eq k i) refl
  where
    by_test : (q : Bool) → nat_eq k i ≡ q → Contains ws (record { 0 = ((get_or xs k d).1, (get_or xs k d).0) })
    by_test true e =
        let n = eqb-true k i e in
        let f : get_or xs k d ≡ get_or xs i (0, 0) = ap (λ j. get_or xs j d) n ∙ get_or_default xs i d (0, 0) l in
        subst (λ y. Contains ws (record { 0 = (y.1, y.0) })) (sym f)
        (Contains-permutation (record { 0 = ((get_or xs i (0, 0)).1, (get_or xs i (0, 0)).0) } ∷ hs) ws (record { 0 = ((get_or xs i (0, 0)).1, (get_or xs i (0, 0)).0) }) p
        (contains_here (record { 0 = ((get_or xs i (0, 0)).1, (get_or xs i (0, 0)).0) }) hs))
    by_test false e =
        let n = eqb-false k i e in
        Contains-permutation (record { 0 = ((get_or xs i (0, 0)).1, (get_or xs i (0, 0)).0) } ∷ hs) ws (record { 0 = ((get_or xs k d).1, (get_or xs k d).0) }) p
        (contains_later (record { 0 = ((get_or xs i (0, 0)).1, (get_or xs i (0, 0)).0) }) hs (record { 0 = ((get_or xs k d).1, (get_or xs k d).0) }) (a k d (omega arith) (omega (arith, n))))

pub waits_all : (xs ys : List (ℕ × ℕ)) (hs : Queue) (i : ℕ) → ys ≡ xs → length ys ≤ i → AllWithin (λ (d : ℕ × ℕ). Contains hs (record { 0 = (d.1, d.0) })) ys 0 i
    → All (λ (d : ℕ × ℕ). Contains hs (record { 0 = (d.1, d.0) })) xs
waits_all xs ys hs i q l a = subst (λ zs. All (λ (d : ℕ × ℕ). Contains hs (record { 0 = (d.1, d.0) })) zs) q (λ k d m. a k d (omega arith) (omega arith))

pub devices_more : (C : CostsValue) (xs : List (ℕ × ℕ)) (hs ws : Queue) (i : ℕ) → xs ≡ C.start → i < length xs
    → IsPermutation (record { 0 = ((get_or xs i (0, 0)).1, (get_or xs i (0, 0)).0) } ∷ hs) ws → AreDevices C hs → AreDevices C ws
devices_more C xs hs ws i q l p a =
    All-permutation (λ (r : Reverse (ℕ × ℕ)). IsDevice C r.0.1) (record { 0 = ((get_or xs i (0, 0)).1, (get_or xs i (0, 0)).0) } ∷ hs) ws p
    (All-cons (λ (r : Reverse (ℕ × ℕ)). IsDevice C r.0.1) (record { 0 = ((get_or xs i (0, 0)).1, (get_or xs i (0, 0)).0) }) hs
    ((get_or xs i (0, 0)).1, subst (λ ys. Contains ys (get_or xs i (0, 0))) q (Contains-get_or xs i (0, 0) l)) a)

pub fits_of : (C : CostsValue) → IsCosts C → (s : WalkStep) → Contains C.steps s → StepFits C s
fits_of C co s h = All-contains (StepFits C) C.steps s co.steps h
