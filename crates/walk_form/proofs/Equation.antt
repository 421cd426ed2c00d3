-- The values of a solution are the lesser of the local argument and the least of what the neighbours' values and the steps
-- make.
use Rattle.std.proofs.Common.{◌≡◌, ◌≢◌, ◌⊎◌, inl, inr, ℕ, ◌<◌, ◌≤◌, ◌+◌, min, List, [], ◌∷◌, map, filter, refl, sym, ◌∙◌, ap, subst, arith, Bool, true, false, ◌||◌, Some, nat_eq, nat_lt}
use Rattle.std.specs.Prelude.{if◌then◌else◌}
use Rattle.std.specs.List.{Contains}
use Rattle.std.proofs.lemmas.Bool.{eqb-true, eq-eqb, ne_eqb}
use Rattle.std.proofs.lemmas.Bool.Decides.{nat_tests}
use Rattle.fc_values.specs.declared.builtins.Builtin.TheVariants as op
use Rattle.fc_values.specs.Types.{IntType, TypeField}
use Rattle.fc_values.specs.Values.{LocalValue, IntValue, BoolValue, PairValue, Fits, compare_values, is_less, lesser}
use Rattle.fc_values.specs.Fields.{Entries, AnyValue, ValueLocal, ValueField, AllFit, FitsOver, Rises, devices, value_at, with_entry, with_number, is_in, restricted}
use Rattle.fc_values.specs.Builtins.{others, least_of, argument_at, builtin_value}
use Rattle.fc_values.specs.Laws.{ReadsPointwise}
use Rattle.fc_values.specs.Positions.{value_over}
use Rattle.fc_values.proofs.Rising.{rises_tail}
use Rattle.fc_nodes.specs.Terms.{Variable, Literal, Sense, Uid, NbrLink, ByRep, Term, Plain, Apply, Nbr, Evolve, If, Let}
use Rattle.fc_nodes.specs.Variables.{is_heard}
use Rattle.topology.specs.Networks.{Network, IsNetwork, Lives, lives, near, numbers}
use Rattle.topology.specs.Nearby.{neighbour_numbers}
use Rattle.topology.proofs.Lemmas.{AllNear, near_fits, near_rises}
use Rattle.interval_facts.specs.Solutions.{Devices, ValueMap, ValueMaps, bind, near_among, around, field_around, field_of, local_map, Solves}
use Rattle.growth_facts.specs.Leads.{lead}
use Rattle.growth_facts.proofs.Closeness.{lesser_lead}
use Rattle.converge_laws.proofs.Agreement.{field_same}
use Rattle.converge_laws.proofs.Around.{entries_over}
use Rattle.walks.proofs.Settling.{contains_first, contains_here, contains_later}
use Rattle.walks.proofs.Gathered.{to_map}

-- ---- the least of a field's integers and an integer

as_lead : (c : Bool) (a b : ℕ) → (if c then IntValue b else IntValue a) ≡ IntValue (lead (if c then IntValue b else IntValue a))
as_lead true a b = refl
as_lead false a b = refl

lesser_integer : (a b : ℕ) → lesser (IntValue a) (IntValue b) ≡ IntValue (min a b)
lesser_integer a b = as_lead (is_less (compare_values (IntValue b) (IntValue a))) a b ∙ ap IntValue (lesser_lead (IntValue a) (IntValue b) tt)

pub record IsLeastOf (d : ℕ) (es : Entries) (a : ℕ) : Type 0 where
  pub value : ℕ
  pub is : least_of (IntValue a) (others d es) ≡ IntValue value
  pub start : value ≤ a
  pub each : (n v : ℕ) → n ≢ d → Contains es (n, IntValue v) → value ≤ v
  pub made : (value ≡ a) ⊎ ((n : ℕ) × (n ≢ d) × Contains es (n, IntValue value))

integer_fit : (m : ℕ) (v : LocalValue) → Fits m IntType v → (b : ℕ) × (v ≡ IntValue b)
integer_fit m (IntValue b) h = (b, refl)
integer_fit m (BoolValue b) h = absurd h
integer_fit m (PairValue a b) h = absurd h

integers_same : (a b : ℕ) → IntValue a ≡ IntValue b → a ≡ b
integers_same a b e = cc

pub least_integers : (m d : ℕ) (es : Entries) (a : ℕ) → AllFit m IntType es → IsLeastOf d es a
least_integers m d [] a h = record { value = a; is = refl; start = omega arith; each = λ n v o k. let l = k.1 in absurd (omega (arith, l)); made = inl refl }
least_integers m d (e ∷ es) a h = by_own (nat_eq e.0 d) refl (λ b. least_integers m d es b h.1)
  where
    -- the device's own entry is left out
    own : e.0 ≡ d → nat_eq e.0 d ≡ true → IsLeastOf d es a → IsLeastOf d (e ∷ es) a
    own z t r = record {
      value = r.value;
      is = rw t r.is;
      start = r.start;
      each = λ n v o k. elim (contains_first e es (n, IntValue v) k) [
        | inl f ↦ absurd (o (sym (ap (λ (x : ℕ × LocalValue). x.0) f) ∙ z))
        | inr g ↦ r.each n v o g
      ];
      made = elim r.made [
        | inl f ↦ inl f
        | inr g ↦ inr (g.0, g.1, contains_later e es (g.0, IntValue r.value) g.2)
      ];
    }

    apart : nat_eq e.0 d ≡ false → e.0 ≢ d
    apart t z = let u = eq-eqb e.0 d z in absurd cc

    by_less : (b v : ℕ) → e.0 ≢ d → e.1 ≡ IntValue b → (c : Bool) → nat_lt a b ≡ c → v ≡ min a b
        → (v ≡ a) ⊎ ((n : ℕ) × (n ≢ d) × Contains (e ∷ es) (n, IntValue v))
    by_less b v o q true u f = let l : a < b = grind (arith, u, nat_tests) in inl (omega (arith, f, l))
    by_less b v o q false u f =
        let l : b ≤ a = grind (arith, u, nat_tests) in
        let w : b ≡ v = omega (arith, f, l) in
        inr (e.0, o, subst (λ x. Contains (e ∷ es) (e.0, x)) (q ∙ ap IntValue w) (contains_here e es))

    other : nat_eq e.0 d ≡ false → (b : ℕ) → e.1 ≡ IntValue b → IsLeastOf d es (min a b) → IsLeastOf d (e ∷ es) a
    other t b q r =
        let s = r.start in
        let first : least_of (lesser (IntValue a) e.1) (others d es) ≡ IntValue r.value =
        ap (λ v. least_of (lesser (IntValue a) v) (others d es)) q ∙ ap (λ v. least_of v (others d es)) (lesser_integer a b) ∙ r.is in
        record {
          value = r.value;
          is = rw t first;
          start = omega (arith, s);
          each = λ n v o k. elim (contains_first e es (n, IntValue v) k) [
            | inl f ↦ let w : b ≡ v = integers_same b v (sym q ∙ ap (λ (x : ℕ × LocalValue). x.1) f) in omega (arith, s, w)
            | inr g ↦ r.each n v o g
          ];
          made = elim r.made [
            | inl f ↦ by_less b r.value (apart t) q (nat_lt a b) refl f
            | inr g ↦ inr (g.0, g.1, contains_later e es (g.0, IntValue r.value) g.2)
          ];
        }

    by_own : (c : Bool) → nat_eq e.0 d ≡ c → ((b : ℕ) → IsLeastOf d es b) → IsLeastOf d (e ∷ es) a
    by_own true t rest = own (eqb-true e.0 d t) t (rest a)
    by_own false t rest = let b = integer_fit m e.1 h.0 in other t b.0 b.1 (rest (min a b.0))

-- ---- a field, read at a device

pub at_contains : (es : Entries) (n : ℕ) (x : LocalValue) → value_at n es ≡ Some x → Contains es (n, x)
at_contains [] n x e = absurd cc
at_contains (y ∷ es) n x e = by_test (nat_eq y.0 n) refl e (at_contains es n x)
  where
    by_test : (c : Bool) → nat_eq y.0 n ≡ c → (if c then Some y.1 else value_at n es) ≡ Some x → (value_at n es ≡ Some x → Contains es (n, x)) → Contains (y ∷ es) (n, x)
    by_test true t f rest =
        let z : y.0 ≡ n = eqb-true y.0 n t in
        let v : y.1 ≡ x = cc in
        subst (λ u. Contains (y ∷ es) (u, x)) z (subst (λ u. Contains (y ∷ es) (y.0, u)) v (contains_here y es))
    by_test false t f rest = contains_later y es (n, x) (rest f)

above : (d : ℕ) (es : Entries) (n : ℕ) (x : LocalValue) → Rises (d ∷ devices es) → Contains es (n, x) → d < n
above d [] n x r h = let l = h.1 in absurd (omega (arith, l))
above d (y ∷ es) n x r h = elim (contains_first y es (n, x) h) [
  | inl f ↦ let z : y.0 ≡ n = ap (λ (u : ℕ × LocalValue). u.0) f in let l = r.0 in omega (arith, z, l)
  | inr g ↦ let k = above y.0 es n x r.1 g in let l = r.0 in omega (arith, k, l)
]

pub contains_at : (es : Entries) (n : ℕ) (x : LocalValue) → Rises (devices es) → Contains es (n, x) → value_at n es ≡ Some x
contains_at [] n x r h = let l = h.1 in absurd (omega (arith, l))
contains_at (y ∷ es) n x r h = elim (contains_first y es (n, x) h) [
  | inl f ↦
      let z : nat_eq y.0 n ≡ true = eq-eqb y.0 n (ap (λ (u : ℕ × LocalValue). u.0) f) in
      let v : y.1 ≡ x = ap (λ (u : ℕ × LocalValue). u.1) f in
      rw z (ap (λ u. Some u) v)
  | inr g ↦
      let l = above y.0 es n x r g in
      let z : nat_eq y.0 n ≡ false = grind (arith, l, nat_tests) in
      rw z (contains_at es n x (rises_tail y.0 (devices es) r) g)
]

-- one more entry changes nothing at another device
with_other : (d n : ℕ) (v : LocalValue) (es : Entries) → n ≢ d → value_at n (with_entry d v es) ≡ value_at n es
with_other d n v [] o = let z : nat_eq d n ≡ false = ne_eqb d n (λ e. o (sym e)) in rw z refl
with_other d n v (e ∷ es) o = by_test (nat_lt d e.0) (with_other d n v es o)
  where
    z : nat_eq d n ≡ false
    z = ne_eqb d n (λ e. o (sym e))

    by_test : (c : Bool) → value_at n (with_entry d v es) ≡ value_at n es → value_at n (if c then ((d, v) ∷ e ∷ es) else (e ∷ with_entry d v es)) ≡ value_at n (e ∷ es)
    by_test true h = rw z refl
    by_test false h = ap (λ u. if nat_eq e.0 n then Some e.1 else u) h

-- a field over a device and its neighbours, at a neighbour
pub over_at : (d : ℕ) (v : LocalValue) (ms : List (ℕ × ℕ)) (f : ℕ × ℕ → LocalValue) (n w : ℕ) → Rises (neighbour_numbers ms) → n ≢ d → Contains ms (n, w)
    → argument_at n (field_around d v ms f) ≡ Some (f (n, w))
over_at d v ms f n w r o h =
    with_other d n v (map (λ (m : ℕ × ℕ). (m.0, f m)) ms) o
    ∙ contains_at (map (λ (m : ℕ × ℕ). (m.0, f m)) ms) n (f (n, w)) (subst Rises (sym (entries_over f ms)) r) (to_map (λ (m : ℕ × ℕ). (m.0, f m)) ms (n, w) h)

-- ---- a device and its neighbours

in_with : (d n : ℕ) (ns : List ℕ) → is_in n ns ≡ true → is_in n (with_number d ns) ≡ true
in_with d n [] h = absurd cc
in_with d n (k ∷ ns) h = by_test (nat_lt d k) h (in_with d n ns)
  where
    or_more : (a b : Bool) → b ≡ true → (a || b) ≡ true
    or_more true b e = refl
    or_more false b e = e

    rest : (a : Bool) → (is_in n ns ≡ true → is_in n (with_number d ns) ≡ true) → (a || is_in n ns) ≡ true → (a || is_in n (with_number d ns)) ≡ true
    rest true f e = refl
    rest false f e = f e

    by_test : (c : Bool) → (nat_eq n k || is_in n ns) ≡ true → (is_in n ns ≡ true → is_in n (with_number d ns) ≡ true)
        → is_in n (if c then (d ∷ k ∷ ns) else (k ∷ with_number d ns)) ≡ true
    by_test true e f = or_more (nat_eq n d) (nat_eq n k || is_in n ns) e
    by_test false e f = rest (nat_eq n k) f e

without : (d n : ℕ) (ns : List ℕ) → n ≢ d → is_in n (with_number d ns) ≡ true → is_in n ns ≡ true
without d n [] o h = let z : nat_eq n d ≡ false = ne_eqb n d o in absurd cc
without d n (k ∷ ns) o h = by_test (nat_lt d k) h (without d n ns o)
  where
    own : (b : Bool) → (nat_eq n d || b) ≡ true → b ≡ true
    own b e = let z : nat_eq n d ≡ false = ne_eqb n d o in rw z at e

    rest : (a : Bool) → (is_in n (with_number d ns) ≡ true → is_in n ns ≡ true) → (a || is_in n (with_number d ns)) ≡ true → (a || is_in n ns) ≡ true
    rest true f e = refl
    rest false f e = f e

    by_test : (c : Bool) → is_in n (if c then (d ∷ k ∷ ns) else (k ∷ with_number d ns)) ≡ true → (is_in n (with_number d ns) ≡ true → is_in n ns ≡ true)
        → (nat_eq n k || is_in n ns) ≡ true
    by_test true e f = own (nat_eq n k || is_in n ns) e
    by_test false e f = rest (nat_eq n k) f e

near_has : (ms : List (ℕ × ℕ)) (n : ℕ) → is_in n (neighbour_numbers ms) ≡ true → (w : ℕ) × Contains ms (n, w)
near_has [] n h = absurd cc
near_has (m ∷ ms) n h = by_test (nat_eq n m.0) refl h (near_has ms n)
  where
    by_test : (c : Bool) → nat_eq n m.0 ≡ c → (c || is_in n (neighbour_numbers ms)) ≡ true → (is_in n (neighbour_numbers ms) ≡ true → (w : ℕ) × Contains ms (n, w))
        → (w : ℕ) × Contains (m ∷ ms) (n, w)
    by_test true t e rest = (m.1, subst (λ u. Contains (m ∷ ms) (u, m.1)) (sym (eqb-true n m.0 t)) (contains_here m ms))
    by_test false t e rest = let r = rest e in (r.0, contains_later m ms (n, r.0) r.1)

has_near : (ms : List (ℕ × ℕ)) (n w : ℕ) → Contains ms (n, w) → is_in n (neighbour_numbers ms) ≡ true
has_near [] n w h = let l = h.1 in absurd (omega (arith, l))
has_near (m ∷ ms) n w h = elim (contains_first m ms (n, w) h) [
  | inl f ↦ let z : nat_eq n m.0 ≡ true = eq-eqb n m.0 (sym (ap (λ (u : ℕ × ℕ). u.0) f)) in rw z refl
  | inr g ↦ or_more (nat_eq n m.0) (is_in n (neighbour_numbers ms)) (has_near ms n w g)
]
  where
    or_more : (a b : Bool) → b ≡ true → (a || b) ≡ true
    or_more true b e = refl
    or_more false b e = e

devices_has : (es : Entries) (n : ℕ) (x : LocalValue) → Contains es (n, x) → is_in n (devices es) ≡ true
devices_has [] n x h = let l = h.1 in absurd (omega (arith, l))
devices_has (e ∷ es) n x h = elim (contains_first e es (n, x) h) [
  | inl f ↦ let z : nat_eq n e.0 ≡ true = eq-eqb n e.0 (sym (ap (λ (u : ℕ × LocalValue). u.0) f)) in rw z refl
  | inr g ↦ or_more (nat_eq n e.0) (is_in n (devices es)) (devices_has es n x g)
]
  where
    or_more : (a b : Bool) → b ≡ true → (a || b) ≡ true
    or_more true b e = refl
    or_more false b e = e

module _ (N : Network) (net : IsNetwork N) where
  abbrev M : ℕ
  M = N.declared.ceiling

  abbrev D : Devices
  D = lives N

  -- all neighbours are there
  all_live : (d : ℕ) (ms : List (ℕ × ℕ)) → AllNear N.declared (numbers N.devices) d ms → filter (λ (n : ℕ × ℕ). lives N n.0) ms ≡ ms
  all_live d [] h = refl
  all_live d (m ∷ ms) h = let e = h.0.there in let r = all_live d ms h.1 in rw e (ap (λ (ns : List (ℕ × ℕ)). m ∷ ns) r)

  pub near_all : (d : ℕ) → near_among N D d ≡ near N d
  near_all d = all_live d (near N d) (near_fits N.declared (numbers N.devices) d N.links net.links)

  pub near_up : (d : ℕ) → Rises (neighbour_numbers (near N d))
  near_up d = near_rises N.declared (numbers N.devices) d N.links net.links

  -- ---- what is heard of the variable

  heard_solved : (f : ℕ → LocalValue) (W : ValueMaps) (p : ℕ) (a : Term) (K : ValueMap) → is_heard ByRep 0 a ≡ true → Solves N p a D (bind 0 (local_map f) W) K → (d : ℕ) → Lives N d → K d ≡ field_of N D f d
  heard_solved f W p (Nbr t (Plain u (Variable k))) K e s d i =
      let z : k ≡ 0 = eqb-true k 0 e in
      s.3 d i ∙ field_same N D s.1 f (λ n j. one (s.1 n) (f n) (s.2.1 n j ∙ ap (λ y. restricted n (neighbour_numbers (near_among N D n)) (bind 0 (local_map f) W y n)) z)) d i
    where
      one : (v w : LocalValue) → ValueLocal v ≡ ValueLocal w → v ≡ w
      one v w e = cc
  heard_solved f W p (Nbr t (Plain u (Literal v))) K e s d i = absurd cc
  heard_solved f W p (Nbr t (Plain u (Sense v))) K e s d i = absurd cc
  heard_solved f W p (Nbr t (Plain u Uid)) K e s d i = absurd cc
  heard_solved f W p (Nbr t (Plain u NbrLink)) K e s d i = absurd cc
  heard_solved f W p (Nbr t (Apply u o xs)) K e s d i = absurd cc
  heard_solved f W p (Nbr t (Nbr u a)) K e s d i = absurd cc
  heard_solved f W p (Nbr t (Evolve u v a b)) K e s d i = absurd cc
  heard_solved f W p (Nbr t (If u c a b)) K e s d i = absurd cc
  heard_solved f W p (Nbr t (Let u a b)) K e s d i = absurd cc
  heard_solved f W p (Plain u l) K e s d i = absurd cc
  heard_solved f W p (Apply u o xs) K e s d i = absurd cc
  heard_solved f W p (Evolve u v a b) K e s d i = absurd cc
  heard_solved f W p (If u c a b) K e s d i = absurd cc
  heard_solved f W p (Let u a b) K e s d i = absurd cc

  -- at each neighbour n of d an argument has this integer, by the number and the weight of the link
  abbrev pub Gives : ℕ → AnyValue → (ℕ × ℕ → ℕ) → Type 0
  Gives d v g = (n w : ℕ) → Contains (near N d) (n, w) → n ≢ d → argument_at n v ≡ Some (IntValue (g (n, w)))

  pub over_gives : (d : ℕ) (v : LocalValue) (f : ℕ × ℕ → LocalValue) (g : ℕ × ℕ → ℕ) → ((n w : ℕ) → Contains (near N d) (n, w) → f (n, w) ≡ IntValue (g (n, w)))
      → (x : AnyValue) → x ≡ field_around d v (near_among N D d) f → Gives d x g
  over_gives d v f g h x e n w c o =
      ap (argument_at n) (e ∙ ap (λ ms. field_around d v ms f) (near_all d)) ∙ over_at d v (near N d) f n w (near_up d) o c ∙ ap (λ y. Some y) (h n w c)

  pub heard_gives : (f : ℕ → LocalValue) (g : ℕ → ℕ) → ((n : ℕ) → Lives N n → f n ≡ IntValue (g n)) → ((d n w : ℕ) → Contains (near N d) (n, w) → Lives N n)
      → (W : ValueMaps) (p : ℕ) (a : Term) (K : ValueMap) → is_heard ByRep 0 a ≡ true → Solves N p a D (bind 0 (local_map f) W) K → (d : ℕ) → Lives N d → Gives d (K d) (λ m. g m.0)
  heard_gives f g ints there W p a K e s d i = over_gives d (f d) (λ m. f m.0) (λ m. g m.0) (λ n w c. ints n (there d n w c)) (K d) (heard_solved f W p a K e s d i)

  -- ---- a sum and the least of it

  pub record Hood (d : ℕ) (H : AnyValue) (g : ℕ × ℕ → ℕ) : Type 0 where
    pub entries : Entries
    pub is : H ≡ ValueField entries
    pub fit : AllFit M IntType entries
    pub neighbour : (n w : ℕ) → Contains (near N d) (n, w) → n ≢ d → Contains entries (n, IntValue (g (n, w)))
    pub entry : (n v : ℕ) → n ≢ d → Contains entries (n, IntValue v) → (w : ℕ) × Contains (near N d) (n, w) × (v ≡ g (n, w))

  field_back : (ds : List ℕ) (v : AnyValue) → FitsOver M ds (TypeField IntType) v → (es : Entries) × (v ≡ ValueField es) × (devices es ≡ ds) × AllFit M IntType es
  field_back ds (ValueField es) h = (es, refl, h.0, h.1)
  field_back ds (ValueLocal v) h = absurd h

  add_both : (n : ℕ) (x y : AnyValue) (a b : ℕ) → argument_at n x ≡ Some (IntValue a) → argument_at n y ≡ Some (IntValue b)
      → value_over op.Add M (x ∷ y ∷ []) n ≡ Some (IntValue (min M (a + b)))
  add_both n x y a b e f = rw (e, f) refl

  some_integer : (a b : ℕ) → Some (IntValue a) ≡ Some (IntValue b) → a ≡ b
  some_integer a b e = cc

  pub sum_hood : ReadsPointwise → (d : ℕ) (x y H : AnyValue) (a b g : ℕ × ℕ → ℕ) → Gives d x a → Gives d y b → ((m : ℕ × ℕ) → min M (a m + b m) ≡ g m)
      → builtin_value op.Add M d (x ∷ y ∷ []) ≡ Some H → FitsOver M (around N D d) (TypeField IntType) H → Hood d H g
  sum_hood law d x y H a b g gx gy sum e fit =
      let r = field_back (around N D d) H fit in
      let es = r.0 in
      let p = law op.Add M d (x ∷ y ∷ []) es refl (e ∙ ap (λ v. Some v) r.1) in
      let over : devices es ≡ with_number d (neighbour_numbers (near N d)) = r.2 ∙ ap (λ ms. with_number d (neighbour_numbers ms)) (near_all d) in
      let at : (n w : ℕ) → Contains (near N d) (n, w) → n ≢ d → value_at n es ≡ Some (IntValue (g (n, w))) =
      λ n w c o.
      let there : is_in n (devices es) ≡ true = subst (λ ds. is_in n ds ≡ true) (sym over) (in_with d n (neighbour_numbers (near N d)) (has_near (near N d) n w c)) in
      p.value n ∙ rw there (add_both n x y (a (n, w)) (b (n, w)) (gx n w c o) (gy n w c o)) ∙ ap (λ k. Some (IntValue k)) (sum (n, w)) in
      record {
        entries = es;
        is = r.1;
        fit = r.3;
        neighbour = λ n w c o. at_contains es n (IntValue (g (n, w))) (at n w c o);
        entry = λ n v o c.
            let ins = without d n (neighbour_numbers (near N d)) o (subst (λ ds. is_in n ds ≡ true) over (devices_has es n (IntValue v) c)) in
            let w = near_has (near N d) n ins in
            (w.0, w.1, some_integer v (g (n, w.0)) (sym (contains_at es n (IntValue v) p.rising c) ∙ at n w.0 w.1 o));
      }

  -- the value of a solution at a device
  pub record Settled (d v a : ℕ) (g : ℕ × ℕ → ℕ) : Type 0 where
    pub start : v ≤ a
    pub step : (n w : ℕ) → Contains (near N d) (n, w) → n ≢ d → v ≤ g (n, w)
    pub made : (v ≡ a) ⊎ ((n : ℕ) × (w : ℕ) × Contains (near N d) (n, w) × (v ≡ g (n, w)))

  local_same : (v w : LocalValue) → Some (ValueLocal v) ≡ Some (ValueLocal w) → v ≡ w
  local_same v w e = cc

  pub settled : (d v a : ℕ) (g : ℕ × ℕ → ℕ) (H : AnyValue) → Hood d H g → builtin_value op.MinHoodLoc M d (H ∷ ValueLocal (IntValue a) ∷ []) ≡ Some (ValueLocal (IntValue v)) → Settled d v a g
  settled d v a g H h e =
      let l = least_integers M d h.entries a h.fit in
      let whole : Some (ValueLocal (least_of (IntValue a) (others d h.entries))) ≡ Some (ValueLocal (IntValue v)) =
      subst (λ x. builtin_value op.MinHoodLoc M d (x ∷ ValueLocal (IntValue a) ∷ []) ≡ Some (ValueLocal (IntValue v))) h.is e in
      let z : v ≡ l.value = integers_same v l.value (sym (local_same (least_of (IntValue a) (others d h.entries)) (IntValue v) whole) ∙ l.is) in
      let s = l.start in
      record {
        start = omega (arith, z, s);
        step = λ n w c o. let k = l.each n (g (n, w)) o (h.neighbour n w c o) in omega (arith, z, k);
        made = elim l.made [
          | inl f ↦ inl (z ∙ f)
          | inr q ↦ let r = h.entry q.0 l.value q.1 q.2 in inr (q.0, r.0, r.1, z ∙ r.2)
        ];
      }
