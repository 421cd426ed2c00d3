-- Two envelopes of which look-ups say the same are one.
use Rattle.std.proofs.Common.{◌≡◌, ℕ, ◌<◌, ◌≤◌, ◌&&◌, ◌||◌, Bool, true, false, nat_eq, min, max, map, List, [], ◌∷◌}
use Rattle.std.proofs.Common.{refl, sym, ◌∙◌, ap, ap₂, subst, arith, ◌⊎◌, inl, inr, Option, Some, None, if◌then◌else◌}
use Rattle.std.proofs.lemmas.Bool.{or_right, ne_eqb}
use Rattle.fc_values.specs.Types.{Declarations}
use Rattle.fc_values.specs.Fields.{Rises, is_in}
use Rattle.fc_values.proofs.Rising.{AllAbove, all_above, rises_apart, rises_tail}
use Rattle.topology.specs.Networks.{BeforeAll, LinksFit}
use Rattle.value_bounds.specs.BoundValues.{BoundValue}
use Rattle.value_bounds.proofs.Values.{both_parts, itself, nat_same}
use Rattle.envelopes.specs.Envelopes.{MaybeDevice, MaybeLink, Envelope, ids, sure_in, bounds_in, least_edge}
use Rattle.envelopes.specs.Edits.{is_pair_of, sure_link}
use Rattle.changes.specs.declared.types.Range.{Range}
use Rattle.changes.specs.Changes.{range}
use Rattle.change_envelopes.specs.Envelopes.{weights_in}
use Rattle.change_envelopes.specs.Laws.{OneEnvelope}

-- ---- choices by tests that are known

clash : false ≡ true → ⊥
clash e = absurd cc

both_then : {A : Type 0} (b c : Bool) (x y z w : A) → b ≡ true → c ≡ true
    → (if b then x else y) ≡ (if c then z else w) → x ≡ z
both_then true true x y z w p q h = h
both_then true false x y z w p q h = absurd (clash q)
both_then false c x y z w p q h = absurd (clash p)

both_else : {A : Type 0} (b c : Bool) (x y z w : A) → b ≡ false → c ≡ false
    → (if b then x else y) ≡ (if c then z else w) → y ≡ w
both_else false false x y z w p q h = h
both_else false true x y z w p q h = absurd (clash (sym q))
both_else true c x y z w p q h = absurd (clash (sym p))

both_or : (b c y w : Bool) → b ≡ false → c ≡ false → (b || y) ≡ (c || w) → y ≡ w
both_or false false y w p q h = h
both_or false true y w p q h = absurd (clash (sym q))
both_or true c y w p q h = absurd (clash (sym p))

-- ---- devices

above_in : (a d : ℕ) (ns : List ℕ) → AllAbove a ns → is_in d ns ≡ true → a < d
above_in a d [] h i = absurd (clash i)
above_in a d (n ∷ ns) h i = by_test (nat_eq d n) refl (λ j. above_in a d ns h.1 j)
  where
    by_test : (t : Bool) → nat_eq d n ≡ t → (is_in d ns ≡ true → a < d) → a < d
    by_test true t later = let e = nat_same d n t in omega (arith, e, h.0)
    by_test false t later = let j : is_in d ns ≡ true = rw t at i in later j

first_in : (x : ℕ) (xs : List ℕ) → is_in x (x ∷ xs) ≡ true
first_in x xs = rw (itself x) refl

-- one of rising numbers is the first, or above it
in_rising : (d n : ℕ) (ns : List ℕ) → Rises (n ∷ ns) → is_in d (n ∷ ns) ≡ true → (d ≡ n) ⊎ (n < d)
in_rising d n ns r i = by_test (nat_eq d n) refl
  where
    by_test : (t : Bool) → nat_eq d n ≡ t → (d ≡ n) ⊎ (n < d)
    by_test true t = inl (nat_same d n t)
    by_test false t = let j : is_in d ns ≡ true = rw t at i in inr (above_in n d ns (all_above n ns r) j)

-- rising numbers that are the same have one first
one_first : (x y : ℕ) (xs ys : List ℕ) → Rises (x ∷ xs) → Rises (y ∷ ys)
    → ((d : ℕ) → is_in d (x ∷ xs) ≡ is_in d (y ∷ ys)) → x ≡ y
one_first x y xs ys r q same =
    elim (in_rising x y ys q (sym (same x) ∙ first_in x xs)) [
      | inl e ↦ e
      | inr l ↦ elim (in_rising y x xs r (same y ∙ first_in y ys)) [
        | inl e ↦ sym e
        | inr m ↦ absurd (omega (arith, l, m))
      ]
    ]

not_sure : (d : ℕ) (ms : List MaybeDevice) → is_in d (ids ms) ≡ false → sure_in d ms ≡ false
not_sure d [] h = refl
not_sure d (m ∷ ms) h = by_test (nat_eq d m.id) refl (λ i. not_sure d ms i)
  where
    by_test : (t : Bool) → nat_eq d m.id ≡ t → (is_in d (ids ms) ≡ false → sure_in d ms ≡ false)
        → sure_in d (m ∷ ms) ≡ false
    by_test true t later = let z : true ≡ false = rw t at h in absurd (clash (sym z))
    by_test false t later = let i : is_in d (ids ms) ≡ false = rw t at h in rw t (later i)

abbrev device : ℕ → List BoundValue → Bool → MaybeDevice
device id inputs sure = record { id = id; inputs = inputs; sure = sure }

one_device : (m n : MaybeDevice) → m.id ≡ n.id → m.inputs ≡ n.inputs → m.sure ≡ n.sure → m ≡ n
one_device m n i b s = ap₂ (λ x y. device x y m.sure) i b ∙ ap (device n.id n.inputs) s

one_list : (ms ns : List MaybeDevice) → Rises (ids ms) → Rises (ids ns)
    → ((d : ℕ) → is_in d (ids ms) ≡ is_in d (ids ns)) → ((d : ℕ) → sure_in d ms ≡ sure_in d ns)
    → ((d : ℕ) → is_in d (ids ms) ≡ true → bounds_in d ms ≡ bounds_in d ns) → ms ≡ ns
one_list [] [] r q same sure inputs = refl
one_list [] (n ∷ ns) r q same sure inputs = absurd (clash (same n.id ∙ first_in n.id (ids ns)))
one_list (m ∷ ms) [] r q same sure inputs = absurd (clash (sym (same m.id) ∙ first_in m.id (ids ms)))
one_list (m ∷ ms) (n ∷ ns) r q same sure inputs =
    ap₂ (λ x xs. x ∷ xs) first
    (one_list ms ns (rises_tail m.id (ids ms) r) (rises_tail n.id (ids ns) q) rest_same rest_sure rest_inputs)
  where
    one : m.id ≡ n.id
    one = one_first m.id n.id (ids ms) (ids ns) r q same

    here : nat_eq m.id n.id ≡ true
    here = subst (λ x. nat_eq m.id x ≡ true) one (itself m.id)

    first : m ≡ n
    first = one_device m n one
        (both_then (nat_eq m.id m.id) (nat_eq m.id n.id) m.inputs (bounds_in m.id ms) n.inputs (bounds_in m.id ns)
        (itself m.id) here (inputs m.id (first_in m.id (ids ms))))
        (both_then (nat_eq m.id m.id) (nat_eq m.id n.id) m.sure (sure_in m.id ms) n.sure (sure_in m.id ns) (itself m.id)
        here (sure m.id))

    absent : is_in m.id (ids ms) ≡ false
    absent = rises_apart m.id (ids ms) r

    absent_there : is_in m.id (ids ns) ≡ false
    absent_there = subst (λ x. is_in x (ids ns) ≡ false) (sym one) (rises_apart n.id (ids ns) q)

    other : (d : ℕ) → nat_eq d m.id ≡ false → nat_eq d n.id ≡ false
    other d t = subst (λ x. nat_eq d x ≡ false) one t

    rest_same : (d : ℕ) → is_in d (ids ms) ≡ is_in d (ids ns)
    rest_same d = by_test (nat_eq d m.id) refl
      where
        by_test : (t : Bool) → nat_eq d m.id ≡ t → is_in d (ids ms) ≡ is_in d (ids ns)
        by_test true t = let e = nat_same d m.id t in rw e (absent ∙ sym absent_there)
        by_test false t =
            both_or (nat_eq d m.id) (nat_eq d n.id) (is_in d (ids ms)) (is_in d (ids ns)) t (other d t) (same d)

    rest_sure : (d : ℕ) → sure_in d ms ≡ sure_in d ns
    rest_sure d = by_test (nat_eq d m.id) refl
      where
        by_test : (t : Bool) → nat_eq d m.id ≡ t → sure_in d ms ≡ sure_in d ns
        by_test true t =
            let e = nat_same d m.id t in
            rw e (not_sure m.id ms absent ∙ sym (not_sure m.id ns absent_there))
        by_test false t =
            both_else (nat_eq d m.id) (nat_eq d n.id) m.sure (sure_in d ms) n.sure (sure_in d ns) t (other d t) (sure d)

    rest_inputs : (d : ℕ) → is_in d (ids ms) ≡ true → bounds_in d ms ≡ bounds_in d ns
    rest_inputs d there = by_test (nat_eq d m.id) refl
      where
        by_test : (t : Bool) → nat_eq d m.id ≡ t → bounds_in d ms ≡ bounds_in d ns
        by_test true t =
            let e = nat_same d m.id t in
            absurd (clash (sym absent ∙ subst (λ x. is_in x (ids ms) ≡ true) e there))
        by_test false t =
            both_else (nat_eq d m.id) (nat_eq d n.id) m.inputs (bounds_in d ms) n.inputs (bounds_in d ns) t (other d t)
            (inputs d (or_right (nat_eq d m.id) (is_in d (ids ms)) there))

-- ---- links

-- a pair is behind that of a link
record IsBehind (m : MaybeLink) (a b : ℕ) : Type 0 where
  pub first : m.a ≤ a
  pub second : m.a ≡ a → m.b < b

-- a link of some is of a pair behind
found_behind : (m : MaybeLink) (ms : List MaybeLink) (a b : ℕ) (r : Range)
    → BeforeAll (least_edge m) (map least_edge ms) → weights_in a b ms ≡ Some r → IsBehind m a b
found_behind m [] a b r before h = absurd cc
found_behind m (k ∷ ms) a b r before h =
    by_test (is_pair_of a b k) refl (λ i. found_behind m ms a b r before.1 i)
  where
    by_test : (t : Bool) → is_pair_of a b k ≡ t → (weights_in a b ms ≡ Some r → IsBehind m a b) → IsBehind m a b
    by_test true t later =
        let parts = both_parts (nat_eq k.a a) (nat_eq k.b b) t in
        let x = nat_same k.a a parts.0 in
        let y = nat_same k.b b parts.1 in
        record {
          first = omega (arith, x, before.0.first);
          second = λ e. let l = before.0.second (e ∙ sym x) in omega (arith, y, l);
        }
    by_test false t later = let i : weights_in a b ms ≡ Some r = rw t at h in later i

not_behind : (m : MaybeLink) → IsBehind m m.a m.b → ⊥
not_behind m h = let l = h.second refl in absurd (omega (arith, l))

-- none is found where none is behind
none_or : (ms : List MaybeLink) (a b : ℕ) → ((r : Range) → weights_in a b ms ≡ Some r → ⊥) → weights_in a b ms ≡ None
none_or ms a b never = by_found (weights_in a b ms) refl
  where
    by_found : (o : Option Range) → weights_in a b ms ≡ o → weights_in a b ms ≡ None
    by_found None e = e
    by_found (Some r) e = absurd (never r e)

not_sure_link : (ms : List MaybeLink) (a b : ℕ) → weights_in a b ms ≡ None → sure_link a b ms ≡ false
not_sure_link [] a b h = refl
not_sure_link (m ∷ ms) a b h = by_test (is_pair_of a b m) refl (λ i. not_sure_link ms a b i)
  where
    by_test : (t : Bool) → is_pair_of a b m ≡ t → (weights_in a b ms ≡ None → sure_link a b ms ≡ false)
        → sure_link a b (m ∷ ms) ≡ false
    by_test true t later = let z : Some (range m.least m.greatest) ≡ None = rw t at h in absurd cc
    by_test false t later = let i : weights_in a b ms ≡ None = rw t at h in rw t (later i)

own_pair : (m : MaybeLink) → is_pair_of m.a m.b m ≡ true
own_pair m = rw (itself m.a, itself m.b) refl

own_weights : (m : MaybeLink) (ms : List MaybeLink)
    → weights_in m.a m.b (m ∷ ms) ≡ Some (range m.least m.greatest)
own_weights m ms = rw (own_pair m) refl

-- a pair that is found is that of the first, or behind it
data FirstOrBehind (m : MaybeLink) (a b : ℕ) : Type 0 where
  is_first : m.a ≡ a → m.b ≡ b → FirstOrBehind m a b
  behind : IsBehind m a b → FirstOrBehind m a b

in_links : (m : MaybeLink) (ms : List MaybeLink) (a b : ℕ) (r : Range)
    → BeforeAll (least_edge m) (map least_edge ms) → weights_in a b (m ∷ ms) ≡ Some r → FirstOrBehind m a b
in_links m ms a b r before h = by_test (is_pair_of a b m) refl
  where
    by_test : (t : Bool) → is_pair_of a b m ≡ t → FirstOrBehind m a b
    by_test true t =
        let parts = both_parts (nat_eq m.a a) (nat_eq m.b b) t in
        is_first (nat_same m.a a parts.0) (nat_same m.b b parts.1)
    by_test false t = let i : weights_in a b ms ≡ Some r = rw t at h in behind (found_behind m ms a b r before i)

record SamePair (m n : MaybeLink) : Type 0 where
  pub a : m.a ≡ n.a
  pub b : m.b ≡ n.b

not_each_behind : (m n : MaybeLink) → IsBehind m n.a n.b → IsBehind n m.a m.b → ⊥
not_each_behind m n h g =
    let e : m.a ≡ n.a = omega (arith, h.first, g.first) in
    let l = h.second e in
    let k = g.second (sym e) in
    absurd (omega (arith, l, k))

abbrev least_of : Option Range → ℕ
least_of None = 0
least_of (Some r) = r.least

abbrev greatest_of : Option Range → ℕ
greatest_of None = 0
greatest_of (Some r) = r.greatest

abbrev link : ℕ → ℕ → ℕ → ℕ → Bool → MaybeLink
link a b least greatest sure = record { a = a; b = b; least = least; greatest = greatest; sure = sure }

one_link : (m n : MaybeLink) → SamePair m n → m.least ≡ n.least → m.greatest ≡ n.greatest → m.sure ≡ n.sure → m ≡ n
one_link m n p l g s =
    ap₂ (λ x y. link x y m.least m.greatest m.sure) p.a p.b
    ∙ ap₂ (λ x y. link n.a n.b x y m.sure) l g
    ∙ ap (link n.a n.b n.least n.greatest) s

sure_first : (b c x y z w : Bool) → b ≡ true → c ≡ true → y ≡ false → w ≡ false
    → ((b && x) || y) ≡ ((c && z) || w) → x ≡ z
sure_first b c x y z w p q u v h = let k : ((true && x) || false) ≡ ((true && z) || false) = rw (p, q, u, v) at h in
    or_nothing x z k
  where
    or_nothing : (x z : Bool) → (x || false) ≡ (z || false) → x ≡ z
    or_nothing true true h = refl
    or_nothing true false h = h
    or_nothing false true h = h
    or_nothing false false h = refl

sure_rest : (b c x y z w : Bool) → b ≡ false → c ≡ false → ((b && x) || y) ≡ ((c && z) || w) → y ≡ w
sure_rest false false x y z w p q h = h
sure_rest false true x y z w p q h = absurd (clash (sym q))
sure_rest true c x y z w p q h = absurd (clash (sym p))

one_links : (D F : Declarations) (ds es : List ℕ) (ms ns : List MaybeLink) → LinksFit D ds (map least_edge ms)
    → LinksFit F es (map least_edge ns) → ((a b : ℕ) → a < b → weights_in a b ms ≡ weights_in a b ns)
    → ((a b : ℕ) → a < b → sure_link a b ms ≡ sure_link a b ns) → ms ≡ ns
one_links D F ds es [] [] r q weights sure = refl
one_links D F ds es [] (n ∷ ns) r q weights sure =
    let z : None ≡ Some (range n.least n.greatest) = weights n.a n.b q.0.order ∙ own_weights n ns in absurd cc
one_links D F ds es (m ∷ ms) [] r q weights sure =
    let z : None ≡ Some (range m.least m.greatest) = sym (weights m.a m.b r.0.order) ∙ own_weights m ms in absurd cc
one_links D F ds es (m ∷ ms) (n ∷ ns) r q weights sure =
    ap₂ (λ x xs. x ∷ xs) first (one_links D F ds es ms ns r.2 q.2 rest_weights rest_sure)
  where
    pair : SamePair m n
    pair = by_both
        (in_links n ns m.a m.b (range m.least m.greatest) q.1 (sym (weights m.a m.b r.0.order) ∙ own_weights m ms))
        (in_links m ms n.a n.b (range n.least n.greatest) r.1 (weights n.a n.b q.0.order ∙ own_weights n ns))
      where
        by_both : FirstOrBehind n m.a m.b → FirstOrBehind m n.a n.b → SamePair m n
        by_both (is_first x y) g = record { a = sym x; b = sym y }
        by_both (behind h) (is_first x y) = record { a = x; b = y }
        by_both (behind h) (behind g) = absurd (not_each_behind m n g h)

    here : is_pair_of m.a m.b n ≡ true
    here = rw (pair.a, pair.b) (own_pair n)

    same_range : Some (range m.least m.greatest) ≡ Some (range n.least n.greatest)
    same_range = sym (own_weights m ms) ∙ weights m.a m.b r.0.order ∙ there
      where
        there : weights_in m.a m.b (n ∷ ns) ≡ Some (range n.least n.greatest)
        there = rw here refl

    absent : weights_in m.a m.b ms ≡ None
    absent = none_or ms m.a m.b (λ x h. not_behind m (found_behind m ms m.a m.b x r.1 h))

    absent_there : weights_in m.a m.b ns ≡ None
    absent_there = none_or ns m.a m.b (λ x h. not_behind n (own (found_behind n ns m.a m.b x q.1 h)))
      where
        own : IsBehind n m.a m.b → IsBehind n n.a n.b
        own h = subst (λ y. IsBehind n n.a y) pair.b (subst (λ x. IsBehind n x m.b) pair.a h)

    first : m ≡ n
    first = one_link m n pair (ap least_of same_range) (ap greatest_of same_range)
        (sure_first (is_pair_of m.a m.b m) (is_pair_of m.a m.b n) m.sure (sure_link m.a m.b ms) n.sure
        (sure_link m.a m.b ns) (own_pair m) here (not_sure_link ms m.a m.b absent)
        (not_sure_link ns m.a m.b absent_there) (sure m.a m.b r.0.order))

    other : (a b : ℕ) → is_pair_of a b m ≡ false → is_pair_of a b n ≡ false
    other a b t = subst (λ y. (nat_eq n.a a && nat_eq y b) ≡ false) pair.b
        (subst (λ x. (nat_eq x a && nat_eq m.b b) ≡ false) pair.a t)

    rest_weights : (a b : ℕ) → a < b → weights_in a b ms ≡ weights_in a b ns
    rest_weights a b less = by_test (is_pair_of a b m) refl
      where
        by_test : (t : Bool) → is_pair_of a b m ≡ t → weights_in a b ms ≡ weights_in a b ns
        by_test true t =
            let parts = both_parts (nat_eq m.a a) (nat_eq m.b b) t in
            let x = nat_same m.a a parts.0 in
            let y = nat_same m.b b parts.1 in
            subst (λ j. weights_in a j ms ≡ weights_in a j ns) y
            (subst (λ i. weights_in i m.b ms ≡ weights_in i m.b ns) x (absent ∙ sym absent_there))
        by_test false t =
            both_else (is_pair_of a b m) (is_pair_of a b n) (Some (range m.least m.greatest)) (weights_in a b ms)
            (Some (range n.least n.greatest)) (weights_in a b ns) t (other a b t) (weights a b less)

    rest_sure : (a b : ℕ) → a < b → sure_link a b ms ≡ sure_link a b ns
    rest_sure a b less = by_test (is_pair_of a b m) refl
      where
        by_test : (t : Bool) → is_pair_of a b m ≡ t → sure_link a b ms ≡ sure_link a b ns
        by_test true t =
            let parts = both_parts (nat_eq m.a a) (nat_eq m.b b) t in
            let x = nat_same m.a a parts.0 in
            let y = nat_same m.b b parts.1 in
            subst (λ j. sure_link a j ms ≡ sure_link a j ns) y
            (subst (λ i. sure_link i m.b ms ≡ sure_link i m.b ns) x
            (not_sure_link ms m.a m.b absent ∙ sym (not_sure_link ns m.a m.b absent_there)))
        by_test false t =
            sure_rest (is_pair_of a b m) (is_pair_of a b n) m.sure (sure_link a b ms) n.sure (sure_link a b ns) t
            (other a b t) (sure a b less)

-- ---- envelopes

abbrev envelope : Declarations → List MaybeDevice → List MaybeLink → Envelope
envelope D ms ls = record { declared = D; devices = ms; links = ls }

pub one_envelope : OneEnvelope
one_envelope n cs E F is other =
    ap₂ (λ x y. envelope x y E.links) (is.declared ∙ sym other.declared) devices ∙ ap (envelope F.declared F.devices) links
  where
    devices : E.devices ≡ F.devices
    devices = one_list E.devices F.devices is.envelope.rising other.envelope.rising
        (λ d. is.devices d ∙ sym (other.devices d)) (λ d. is.sure d ∙ sym (other.sure d))
        (λ d there. is.inputs d there ∙ sym (other.inputs d (other.devices d ∙ sym (is.devices d) ∙ there)))

    links : E.links ≡ F.links
    links = one_links E.declared F.declared (ids E.devices) (ids F.devices) E.links F.links is.envelope.links
        other.envelope.links
        (λ a b less. in_order less (λ x y. weights_in x y E.links ≡ weights_in x y F.links) (λ t. is.links a b t
        ∙ sym (other.links a b t)))
        (λ a b less. in_order less (λ x y. sure_link x y E.links ≡ sure_link x y F.links) (λ t. is.sure_links a b t
        ∙ sym (other.sure_links a b t)))
      where
        in_order : {a b : ℕ} → a < b → (P : ℕ → ℕ → Type 0) → (nat_eq a b ≡ false → P (min a b) (max a b)) → P a b
        in_order {a} {b} less P h =
            let apart : nat_eq a b ≡ false = ne_eqb a b (λ e. absurd (omega (arith, e, less))) in
            let x : min a b ≡ a = omega (arith, less) in
            let y : max a b ≡ b = omega (arith, less) in
            subst (λ j. P a j) y (subst (λ i. P i (max a b)) x (h apart))
