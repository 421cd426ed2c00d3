-- Where devices and steps stand in rising lists.
use Rattle.std.proofs.Common.{◌≡◌, ℕ, zero, suc, ◌+◌, ◌-◌, ◌<◌, ◌≤◌, inl, inr, List, [], ◌∷◌, length, get_or, take, drop, map, refl, sym, ◌∙◌, ap, subst, arith, Bool, true, false, nat_eq, nat_lt, nat_le, length-take, length-drop, get_or-take, get_or-drop}
use Rattle.std.specs.List.{All, AllPairs, AllWithin, Contains}
use Rattle.std.specs.List.Sorted.{IsPartitionPoint, IsNonDecreasingBy}
use Rattle.std.proofs.lemmas.Bool.{eqb-true, eqb-false, ltb-true, ltb-false, leb-true, leb-false}
use Rattle.std.proofs.lemmas.List.Elements.{All-take, All-drop, All-contains_itself}
use Rattle.fc_values.specs.Fields.{Rises}
use Rattle.fc_values.proofs.Rising.{rises_at}
use Rattle.walks.specs.declared.types.WalkStep.{WalkStep}
use Rattle.walks.specs.Walks.{IsBefore}
use Rattle.walks.proofs.Fixed.{number_get, numbers_length}

-- ---- devices

pub pairs_rise : (xs : List (ℕ × ℕ)) → Rises (map (λ (x : ℕ × ℕ). x.0) xs) → IsNonDecreasingBy (λ (x : ℕ × ℕ). x.0) xs
pairs_rise xs r i j d h l = by_test (nat_eq i j) refl
  where
    by_test : (q : Bool) → nat_eq i j ≡ q → (get_or xs i d).0 ≤ (get_or xs j d).0
    by_test true e = let k = eqb-true i j e in subst (λ m. (get_or xs i d).0 ≤ (get_or xs m d).0) k (omega arith)
    by_test false e =
        let k = eqb-false i j e in
        let u = rises_at (map (λ (x : ℕ × ℕ). x.0) xs) r i j (omega (arith, k)) (omega (arith, numbers_length xs)) in
        omega (arith, number_get xs i d (omega arith), number_get xs j d l)

pub not_there : (xs : List (ℕ × ℕ)) (d at : ℕ) → Rises (map (λ (x : ℕ × ℕ). x.0) xs)
    → IsPartitionPoint (λ (x : ℕ × ℕ). nat_lt x.0 d ≡ true) (λ (x : ℕ × ℕ). nat_lt x.0 d ≡ false) xs at
    → (at < length xs → (get_or xs at (0, 0)).0 ≡ d → ⊥) → (s : ℕ) → Contains xs (d, s) → ⊥
not_there xs d at r point none s h = by_test (nat_lt h.0 at) refl
  where
    by_test : (q : Bool) → nat_lt h.0 at ≡ q → ⊥
    by_test true e =
        let a = ltb-true h.0 at e in
        let b = ltb-true (get_or xs h.0 (d, s)).0 d (point.0 h.0 (d, s) (omega arith) a) in
        let c : (get_or xs h.0 (d, s)).0 ≡ d = ap (λ (x : ℕ × ℕ). x.0) h.2 in
        absurd (omega arith)
    by_test false e =
        let a = ltb-false h.0 at e in
        let l : h.0 < length xs = h.1 in
        let b = ltb-false (get_or xs at (0, 0)).0 d (point.1 at (0, 0) (omega arith) (omega arith)) in
        let c : (get_or xs h.0 (d, s)).0 ≡ d = ap (λ (x : ℕ × ℕ). x.0) h.2 in
        let n = number_get xs h.0 (d, s) l in
        let m = number_get xs at (0, 0) (omega arith) in
        let u = none (omega arith) in
        by_place (nat_eq at h.0) refl a l b c n m u
      where
        by_place : (q : Bool) → nat_eq at h.0 ≡ q → at ≤ h.0 → h.0 < length xs → d ≤ (get_or xs at (0, 0)).0 → (get_or xs h.0 (d, s)).0 ≡ d
            → get_or (map (λ (x : ℕ × ℕ). x.0) xs) h.0 0 ≡ (get_or xs h.0 (d, s)).0 → get_or (map (λ (x : ℕ × ℕ). x.0) xs) at 0 ≡ (get_or xs at (0, 0)).0
            → ((get_or xs at (0, 0)).0 ≡ d → ⊥) → ⊥
        by_place true e a l b c n m u = let k = eqb-true at h.0 e in u (sym m ∙ ap (λ i. get_or (map (λ (x : ℕ × ℕ). x.0) xs) i 0) k ∙ n ∙ c)
        by_place false e a l b c n m u =
            let k = eqb-false at h.0 e in
            let v = rises_at (map (λ (x : ℕ × ℕ). x.0) xs) r at h.0 (omega (arith, k)) (omega (arith, numbers_length xs)) in
            absurd (omega arith)

-- ---- steps

pub steps_rise : (xs : List WalkStep) → AllPairs IsBefore xs → IsNonDecreasingBy (λ (s : WalkStep). s.from) xs
steps_rise xs r i j d h l = by_test (nat_eq i j) refl
  where
    by_test : (q : Bool) → nat_eq i j ≡ q → (get_or xs i d).from ≤ (get_or xs j d).from
    by_test true e = let k = eqb-true i j e in subst (λ m. (get_or xs i d).from ≤ (get_or xs m d).from) k (omega arith)
    by_test false e =
        let k = eqb-false i j e in
        elim (r i j d (omega (arith, k)) l) [ inl a ↦ omega arith | inr a ↦ let b = a.0 in omega arith ]

-- the steps from a device are those between two places
module _ (xs ys : List WalkStep) (d first count : ℕ) (get : (k : ℕ) (s : WalkStep) → get_or ys k s ≡ get_or xs (first + k) s) (long : length ys + first ≡ length xs)
    (before : IsPartitionPoint (λ (s : WalkStep). nat_lt s.from d ≡ true) (λ (s : WalkStep). nat_lt s.from d ≡ false) xs first)
    (behind : IsPartitionPoint (λ (s : WalkStep). nat_le s.from d ≡ true) (λ (s : WalkStep). nat_le s.from d ≡ false) ys count) where
  pub span_from : (k : ℕ) (s : WalkStep) → k < count → k < length ys → (get_or ys k s).from ≡ d
  span_from k s l m =
      let a = leb-true (get_or ys k s).from d (behind.0 k s (omega arith) l) in
      let b = ltb-false (get_or xs (first + k) s).from d (before.1 (first + k) s (omega arith) (omega arith)) in
      let e = ap (λ (t : WalkStep). t.from) (get k s) in
      omega arith

  span_past : (s : WalkStep) (k : ℕ) → k < length xs → (get_or xs k s).from ≡ d → first ≤ k
  span_past s k l e = by_test (nat_le first k) refl
    where
      by_test : (q : Bool) → nat_le first k ≡ q → first ≤ k
      by_test true t = leb-true first k t
      by_test false t =
          let m = leb-false first k t in
          let b = ltb-true (get_or xs k s).from d (before.0 k s (omega arith) (omega arith)) in
          absurd (omega arith)

  span_within : (s : WalkStep) (k : ℕ) → k < length ys → (get_or ys k s).from ≡ d → k < count
  span_within s k l e = by_test (nat_lt k count) refl
    where
      by_test : (q : Bool) → nat_lt k count ≡ q → k < count
      by_test true t = ltb-true k count t
      by_test false t =
          let m = ltb-false k count t in
          let b = leb-false (get_or ys k s).from d (behind.1 k s m l) in
          absurd (omega arith)

  pub span_all : (s : WalkStep) (k : ℕ) → k < length xs → get_or xs k s ≡ s → s.from ≡ d
      → (k - first < count) × (k - first < length ys) × (get_or ys (k - first) s ≡ s)
  span_all s k l e f =
      let past = span_past s k l (ap (λ (t : WalkStep). t.from) e ∙ f) in
      let q : first + (k - first) ≡ k = omega arith in
      let there : get_or ys (k - first) s ≡ s = get (k - first) s ∙ ap (λ i. get_or xs i s) q ∙ e in
      let inside : k - first < length ys = omega arith in
      (span_within s (k - first) inside (ap (λ (t : WalkStep). t.from) there ∙ f), inside, there)

-- ---- the steps between two places of a list

pub take_long : (n : ℕ) (xs : List WalkStep) → length xs ≤ n → take n xs ≡ xs
take_long zero [] h = refl
take_long zero (x ∷ xs) h = absurd (omega arith)
take_long (suc n) [] h = refl
take_long (suc n) (x ∷ xs) h = ap (λ ys. x ∷ ys) (take_long n xs (omega arith))

pub rest_of : (xs : List WalkStep) (first : ℕ) → take (length xs - first) (drop first xs) ≡ drop first xs
rest_of xs first = take_long (length xs - first) (drop first xs) (omega (arith, length-drop first xs))

pub cut_in : (xs ys : List WalkStep) (first count : ℕ) → ys ≡ xs → All (Contains xs) (take count (take (length ys - first) (drop first ys)))
cut_in xs ys first count e = All-take (Contains xs) count (take (length ys - first) (drop first ys))
    (All-take (Contains xs) (length ys - first) (drop first ys)
    (All-drop (Contains xs) first ys (subst (λ zs. All (Contains xs) zs) (sym e) (All-contains_itself xs))))

module _ (xs ys : List WalkStep) (d first count : ℕ) (same : ys ≡ xs) (within : first ≤ length xs)
    (before : IsPartitionPoint (λ (s : WalkStep). nat_lt s.from d ≡ true) (λ (s : WalkStep). nat_lt s.from d ≡ false) xs first)
    (behind : IsPartitionPoint (λ (s : WalkStep). nat_le s.from d ≡ true) (λ (s : WalkStep). nat_le s.from d ≡ false) (take (length ys - first) (drop first ys)) count) where
  rest_is : take (length ys - first) (drop first ys) ≡ drop first xs
  rest_is = rest_of ys first ∙ ap (λ zs. drop first zs) same

  behind_rest : IsPartitionPoint (λ (s : WalkStep). nat_le s.from d ≡ true) (λ (s : WalkStep). nat_le s.from d ≡ false) (drop first xs) count
  behind_rest = subst (λ zs. IsPartitionPoint (λ (s : WalkStep). nat_le s.from d ≡ true) (λ (s : WalkStep). nat_le s.from d ≡ false) zs count) rest_is behind

  rest_long : length (drop first xs) + first ≡ length xs
  rest_long = omega (arith, length-drop first xs)

  pub cut_from : All (λ (s : WalkStep). s.from ≡ d) (take count (take (length ys - first) (drop first ys)))
  cut_from = subst (λ zs. All (λ (s : WalkStep). s.from ≡ d) (take count zs)) (sym rest_is) (λ k s l.
      let n = length-take count (drop first xs) in
      let q : k < count = omega arith in
      ap (λ (t : WalkStep). t.from) (get_or-take count (drop first xs) k s q)
      ∙ span_from xs (drop first xs) d first count (λ i t. get_or-drop first xs i t) rest_long before behind_rest k s q (omega arith))

  pub cut_all : (s : WalkStep) → s.from ≡ d → Contains xs s → Contains (take count (take (length ys - first) (drop first ys))) s
  cut_all s f h =
      subst (λ zs. Contains (take count zs) s) (sym rest_is)
      (let a = span_all xs (drop first xs) d first count (λ i t. get_or-drop first xs i t) rest_long before behind_rest s h.0 h.1 h.2 f in
      let l = a.0 in
      let m = a.1 in
      (h.0 - first, omega (arith, length-take count (drop first xs)), get_or-take count (drop first xs) (h.0 - first) s l ∙ a.2))

-- a step with its devices by other names
pub step_named : (xs : List WalkStep) (s : WalkStep) (from to : ℕ) → s.from ≡ from → s.to ≡ to → Contains xs s → Contains xs (record { from = from; to = to; cost = s.cost })
step_named xs s from to e f h =
    subst (λ m. Contains xs (record { from = from; to = m; cost = s.cost })) f (subst (λ m. Contains xs (record { from = m; to = s.to; cost = s.cost })) e h)

-- where no step of a part leads to a device, there is none
pub none_leads : (xs : List WalkStep) (from to k i : ℕ) → length xs ≤ i → AllWithin (λ (s : WalkStep). s.to ≡ to → ⊥) xs 0 i
    → Contains xs (record { from = from; to = to; cost = k }) → ⊥
none_leads xs from to k i l a h =
    let m = h.1 in
    a h.0 (record { from = from; to = to; cost = k }) (omega arith) (omega arith) (ap (λ (s : WalkStep). s.to) h.2)

pub cut_order : (xs ys : List WalkStep) (first count : ℕ) → ys ≡ xs → AllPairs IsBefore xs → AllPairs IsBefore (take count (take (length ys - first) (drop first ys)))
cut_order xs ys first count e a =
    subst (λ zs. AllPairs IsBefore (take count zs)) (sym (rest_of ys first ∙ ap (λ zs. drop first zs) e)) (λ i j s l m.
    let n = length-take count (drop first xs) in
    let k = length-drop first xs in
    let inside : j < count = omega arith in
    let u : get_or (take count (drop first xs)) i s ≡ get_or xs (first + i) s = get_or-take count (drop first xs) i s (omega arith) ∙ get_or-drop first xs i s in
    let v : get_or (take count (drop first xs)) j s ≡ get_or xs (first + j) s = get_or-take count (drop first xs) j s inside ∙ get_or-drop first xs j s in
    subst (λ x. IsBefore x (get_or (take count (drop first xs)) j s)) (sym u) (subst (λ y. IsBefore (get_or xs (first + i) s) y) (sym v)
    (a (first + i) (first + j) s (omega arith) (omega arith))))
