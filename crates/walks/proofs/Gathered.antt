-- Crates above cite this module: the gathered steps are those of a network's links, in order.
use Rattle.std.proofs.Common.{◌≡◌, ℕ, zero, suc, ◌+◌, ◌<◌, ◌≤◌, inl, inr, List, [], ◌∷◌, ◌++◌, length, get_or, map, drop, refl, sym, ◌∙◌, ap, subst, arith, Bool, true, false, nat_eq, ◌||◌, append_assoc}
use Rattle.std.specs.List.{All, AllPairs, Contains}
use Rattle.std.proofs.lemmas.Bool.{eqb-true}
use Rattle.std.proofs.lemmas.List.{get_or-map, length-map, drop_more}
use Rattle.std.proofs.lemmas.List.Elements.{All-contains, Contains-get_or, Contains-append_left, Contains-append_right, Contains-append_cases}
use Rattle.fc_values.specs.Fields.{Rises, is_in}
use Rattle.fc_values.proofs.Rising.{rises_at, rises_tail, later_above}
use Rattle.topology.specs.declared.types.Device.{Device}
use Rattle.topology.specs.Networks.{Network, IsNetwork, Lives, net_device_of, near, numbers}
use Rattle.topology.specs.Nearby.{neighbour_numbers}
use Rattle.walks.specs.declared.types.WalkStep.{WalkStep}
use Rattle.walks.specs.Walks.{IsDevice, IsBefore, IsCosts}
use Rattle.walks.specs.Gathering.{AddValue, AddEach, AddWeights, added, step_to, steps_from, gathered, AreOf, AddFits, EachRises}
use Rattle.walks.proofs.Fixed.{has_here}
use Rattle.walks.proofs.Settling.{contains_first, contains_later, contains_here}

-- ---- members

pub in_map : {X Y : Type 0} (f : X → Y) (xs : List X) (y : Y) → Contains (map f xs) y → (x : X) × Contains xs x × (f x ≡ y)
in_map f [] y h = let l = h.1 in absurd (omega arith)
in_map f (x ∷ xs) y h = elim (contains_first (f x) (map f xs) y h) [
  | inl e ↦ (x, contains_here x xs, e)
  | inr g ↦ let r = in_map f xs y g in (r.0, contains_later x xs r.0 r.1, r.2)
]

pub to_map : {X Y : Type 0} (f : X → Y) (xs : List X) (x : X) → Contains xs x → Contains (map f xs) (f x)
to_map f [] x h = let l = h.1 in absurd (omega arith)
to_map f (y ∷ xs) x h = elim (contains_first y xs x h) [
  | inl e ↦ subst (λ z. Contains (f y ∷ map f xs) (f z)) e (contains_here (f y) (map f xs))
  | inr g ↦ contains_later (f y) (map f xs) (f x) (to_map f xs x g)
]

is_there : (d : ℕ) (ds : List ℕ) → is_in d ds ≡ true → Contains ds d
is_there d [] h = absurd (cc)
is_there d (e ∷ ds) h = by_test (nat_eq d e) refl h (is_there d ds)
  where
    by_test : (q : Bool) → nat_eq d e ≡ q → (q || is_in d ds) ≡ true → (is_in d ds ≡ true → Contains ds d) → Contains (e ∷ ds) d
    by_test true t g ih = subst (λ x. Contains (x ∷ ds) d) (eqb-true d e t) (contains_here d ds)
    by_test false t g ih = contains_later e ds d (ih g)

-- a device of rising pairs has its cost
of_pairs : (xs : List (ℕ × ℕ)) (d : ℕ) → Contains (map (λ (x : ℕ × ℕ). x.0) xs) d → (s : ℕ) × Contains xs (d, s)
of_pairs xs d h =
    let r = in_map (λ (x : ℕ × ℕ). x.0) xs d h in
    (r.0.1, subst (λ e. Contains xs (e, r.0.1)) r.2 r.1)

module _ (N : Network) (A : AddValue) where
  pub in_steps : (ds : List ℕ) (s : WalkStep) → Contains (steps_from N A ds) s
      → (w : ℕ) × Contains ds s.from × Contains (near N s.from) (s.to, w) × (added A (s.to, w) ≡ s.cost)
  in_steps [] s h = let l = h.1 in absurd (omega arith)
  in_steps (d ∷ ds) s h = elim (Contains-append_cases (map (step_to A d) (near N d)) (steps_from N A ds) s h) [
    | inl g ↦
        let r = in_map (step_to A d) (near N d) s g in
        let e : d ≡ s.from = ap (λ (t : WalkStep). t.from) r.2 in
        let f : r.0.0 ≡ s.to = ap (λ (t : WalkStep). t.to) r.2 in (
          r.0.1,
          subst (λ x. Contains (d ∷ ds) x) e (contains_here d ds),
          subst (λ x. Contains (near N x) (s.to, r.0.1)) e (subst (λ x. Contains (near N d) (x, r.0.1)) f r.1),
          subst (λ x. added A (x, r.0.1) ≡ s.cost) f (ap (λ (t : WalkStep). t.cost) r.2),
        )
    | inr g ↦ let r = in_steps ds s g in (r.0, contains_later d ds s.from r.1, r.2, r.3)
  ]

  pub to_steps : (ds : List ℕ) (d : ℕ) (n : ℕ × ℕ) → Contains ds d → Contains (near N d) n → Contains (steps_from N A ds) (step_to A d n)
  to_steps [] d n h g = let l = h.1 in absurd (omega arith)
  to_steps (e ∷ ds) d n h g = elim (contains_first e ds d h) [
    | inl q ↦ Contains-append_left (map (step_to A e) (near N e)) (steps_from N A ds) (step_to A d n)
        (subst (λ x. Contains (map (step_to A x) (near N x)) (step_to A d n)) (sym q) (to_map (step_to A d) (near N d) n g))
    | inr k ↦ Contains-append_right (map (step_to A e) (near N e)) (steps_from N A ds) (step_to A d n) (to_steps ds d n k g)
  ]

-- ---- order

-- a step before all those of a list
abbrev BeforeEach : WalkStep → List WalkStep → Type 0
BeforeEach s xs = (y : WalkStep) → Contains xs y → IsBefore s y

pairs_cons : (x : WalkStep) (xs : List WalkStep) → BeforeEach x xs → AllPairs IsBefore xs → AllPairs IsBefore (x ∷ xs)
pairs_cons x xs b a zero zero d l m = absurd (omega arith)
pairs_cons x xs b a zero (suc j) d l m = b (get_or xs j d) (Contains-get_or xs j d (omega arith))
pairs_cons x xs b a (suc i) zero d l m = absurd (omega arith)
pairs_cons x xs b a (suc i) (suc j) d l m = a i j d (omega arith) (omega arith)

pairs_tail : (x : WalkStep) (xs : List WalkStep) → AllPairs IsBefore (x ∷ xs) → AllPairs IsBefore xs
pairs_tail x xs a i j d l m = a (suc i) (suc j) d (omega arith) (omega arith)

pairs_head : (x : WalkStep) (xs : List WalkStep) → AllPairs IsBefore (x ∷ xs) → BeforeEach x xs
pairs_head x xs a y h = let l = h.1 in subst (λ z. IsBefore x z) h.2 (a zero (suc h.0) y (omega arith) (omega arith))

pairs_append : (xs ys : List WalkStep) → AllPairs IsBefore xs → AllPairs IsBefore ys → ((x y : WalkStep) → Contains xs x → Contains ys y → IsBefore x y) → AllPairs IsBefore (xs ++ ys)
pairs_append [] ys a b h = b
pairs_append (x ∷ xs) ys a b h =
    pairs_cons x (xs ++ ys) (λ y g. elim (Contains-append_cases xs ys y g) [
      | inl k ↦ pairs_head x xs a y k
      | inr k ↦ h x y (contains_here x xs) k
    ]) (pairs_append xs ys (pairs_tail x xs a) b (λ u v g k. h u v (contains_later x xs u g) k))

near_order : (A : AddValue) (d : ℕ) (ns : List (ℕ × ℕ)) → Rises (neighbour_numbers ns) → AllPairs IsBefore (map (step_to A d) ns)
near_order A d ns r i j s l m =
    let n = length-map ns (step_to A d) in
    let k = length-map ns (λ (x : ℕ × ℕ). x.0) in
    let inside : j < length ns = omega arith in
    let a = rises_at (neighbour_numbers ns) r i j l (omega arith) in
    let e = get_or-map (step_to A d) ns i (0, 0) s (omega arith) in
    let f = get_or-map (step_to A d) ns j (0, 0) s inside in
    let u = get_or-map (λ (x : ℕ × ℕ). x.0) ns i (0, 0) 0 (omega arith) in
    let v = get_or-map (λ (x : ℕ × ℕ). x.0) ns j (0, 0) 0 inside in
    subst (λ x. IsBefore x (get_or (map (step_to A d) ns) j s)) (sym e) (subst (λ y. IsBefore (step_to A d (get_or ns i (0, 0))) y) (sym f) (inr (refl, omega arith)))

steps_order : (N : Network) (A : AddValue) → ((d : ℕ) → Rises (neighbour_numbers (near N d))) → (ds : List ℕ) → Rises ds → AllPairs IsBefore (steps_from N A ds)
steps_order N A near_rises [] r = λ i j d l m. absurd (omega arith)
steps_order N A near_rises (d ∷ ds) r =
    pairs_append (map (step_to A d) (near N d)) (steps_from N A ds) (near_order A d (near N d) (near_rises d)) (steps_order N A near_rises ds (rises_tail d ds r)) (λ x y g h.
    let u = in_map (step_to A d) (near N d) x g in
    let e : d ≡ x.from = ap (λ (t : WalkStep). t.from) u.2 in
    let v = (in_steps N A ds y h).1 in
    let b = later_above d ds r v.0 v.1 in
    let f : get_or ds v.0 0 ≡ y.from = number_default ds v.0 0 y.from v.1 ∙ v.2 in
    inl (omega arith))
  where
    number_default : (ns : List ℕ) (i a b : ℕ) → i < length ns → get_or ns i a ≡ get_or ns i b
    number_default [] i a b l = absurd (omega arith)
    number_default (n ∷ ns) zero a b l = refl
    number_default (n ∷ ns) (suc i) a b l = number_default ns i a b (omega arith)

-- ---- the gathered costs

-- what is known of a network's neighbours
pub record AreMutual (N : Network) : Type 0 where
  pub rising : (d : ℕ) → Rises (neighbour_numbers (near N d))
  pub there : (d e w : ℕ) → Contains (near N d) (e, w) → Lives N e
  pub both : (d e w : ℕ) → Contains (near N d) (e, w) → Contains (near N e) (d, w)

added_fits : (ceiling : ℕ) (N : Network) (A : AddValue) → Rises (numbers N.devices) → AddFits ceiling N A → (d e w : ℕ) → Contains (near N d) (e, w) → Contains (numbers N.devices) e
    → (1 ≤ added A (e, w)) × (added A (e, w) ≤ ceiling)
added_fits ceiling N (AddEach xs) r f d e w h there =
    let p = of_pairs xs e (subst (λ ds. Contains ds e) (sym f.0) there) in
    let q = has_here xs e p.0 p.1.0 (subst Rises (sym f.0) r) p.1.1 p.1.2 in
    let b = All-contains (λ (x : ℕ × ℕ). (1 ≤ x.1) × (x.1 ≤ ceiling)) xs (e, p.0) f.1 p.1 in
    (subst (λ x. 1 ≤ x) (sym q) b.0, subst (λ x. x ≤ ceiling) (sym q) b.1)
added_fits ceiling N AddWeights r f d e w h there = f d e w h

pub gathered_costs : (ceiling : ℕ) (N : Network) (start : List (ℕ × ℕ)) (A : AddValue) → IsNetwork N → AreMutual N → AreOf N start → All (λ (d : ℕ × ℕ). d.1 ≤ ceiling) start
    → AddFits ceiling N A → IsCosts (gathered ceiling N start A)
gathered_costs ceiling N start A net m of starts f = record {
  rising = subst Rises (sym of) net.rising;
  starts = starts;
  order = steps_order N A m.rising (numbers N.devices) net.rising;
  steps = λ k s l.
      let t = get_or (steps_from N A (numbers N.devices)) k s in
      let r = in_steps N A (numbers N.devices) t (Contains-get_or (steps_from N A (numbers N.devices)) k s l) in
      let there = is_there t.to (numbers N.devices) (m.there t.from t.to r.0 r.2) in
      let b = added_fits ceiling N A net.rising f t.from t.to r.0 r.2 there in
      record {
        from = device t.from r.1;
        to = device t.to there;
        some = subst (λ x. 1 ≤ x) r.3 b.0;
        most = subst (λ x. x ≤ ceiling) r.3 b.1;
      };
  both_ways = λ n d k h.
      let r = in_steps N A (numbers N.devices) (record { from = n; to = d; cost = k }) h in
      let there = is_there d (numbers N.devices) (m.there n d r.0 r.2) in
      (added A (n, r.0), to_steps N A (numbers N.devices) d (n, r.0) there (m.both n d r.0 r.2));
}
  where
    device : (d : ℕ) → Contains (numbers N.devices) d → IsDevice (gathered ceiling N start A) d
    device d h = of_pairs start d (subst (λ ds. Contains ds d) (sym of) h)

pub each_rises : (ceiling : ℕ) (N : Network) (A : AddValue) → Rises (numbers N.devices) → AddFits ceiling N A → EachRises A
each_rises ceiling N (AddEach xs) r f = subst Rises (sym f.0) r
each_rises ceiling N AddWeights r f = tt

-- ---- device by device

pub more_steps : (N : Network) (A : AddValue) (ds : List Device) (i : ℕ) (x : Device) (all old new : List WalkStep) → i < length ds → x ≡ get_or ds i x
    → all ≡ old ++ steps_from N A (numbers (map net_device_of (drop i ds))) → new ≡ old ++ map (step_to A x.id) (near N x.id)
    → all ≡ new ++ steps_from N A (numbers (map net_device_of (drop (i + 1) ds)))
more_steps N A ds i x all old new l e q p =
    let rest = steps_from N A (numbers (map net_device_of (drop (i + 1) ds))) in
    let here = map (step_to A x.id) (near N x.id) in
    let d : drop i ds ≡ x ∷ drop (i + 1) ds = drop_more ds i x l ∙ ap (λ y. y ∷ drop (i + 1) ds) (sym e) in
    q ∙ ap (λ ys. old ++ steps_from N A (numbers (map net_device_of ys))) d ∙ sym (append_assoc old here rest) ∙ ap (λ ys. ys ++ rest) (sym p)

none_left : (n : ℕ) (ds : List Device) → length ds ≤ n → drop n ds ≡ []
none_left zero [] l = refl
none_left zero (d ∷ ds) l = absurd (omega arith)
none_left (suc n) [] l = refl
none_left (suc n) (d ∷ ds) l = none_left n ds (omega arith)

nothing_behind : (xs : List WalkStep) → xs ++ [] ≡ xs
nothing_behind [] = refl
nothing_behind (x ∷ xs) = ap (λ ys. x ∷ ys) (nothing_behind xs)

pub all_steps : (N : Network) (A : AddValue) (ds : List Device) (i : ℕ) (all old : List WalkStep) → length ds ≤ i
    → all ≡ old ++ steps_from N A (numbers (map net_device_of (drop i ds))) → old ≡ all
all_steps N A ds i all old l q = sym (q ∙ ap (λ ys. old ++ steps_from N A (numbers (map net_device_of ys))) (none_left i ds l) ∙ nothing_behind old)
