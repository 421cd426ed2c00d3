-- The acyclic pattern: a body whose occurrences are guarded has one value where what is heard is the same below.
use Rattle.std.proofs.Common.{◌≡◌, ℕ, suc, ◌≤◌, ◌<◌, List, [], ◌∷◌, length, get_or, refl, sym, ◌∙◌, ap, subst, arith, ◌⊎◌, inl, inr, Bool, true, false, ◌||◌, Some, nat_eq}
use Rattle.std.proofs.lemmas.List.{length-map}
use Rattle.fc_values.specs.declared.builtins.Builtin.{Builtin}
use Rattle.fc_values.specs.declared.builtins.Builtin.TheVariants as op
use Rattle.fc_values.specs.Types.{ValueType, TypeLocal, TypeField}
use Rattle.fc_values.specs.Values.{LocalValue, IntValue, BoolValue}
use Rattle.fc_values.specs.Fields.{Entries, AnyValue, ValueLocal, ValueField, devices, device_of, rises, FitsOver}
use Rattle.fc_values.specs.Builtins.{local_value, builtin_value}
use Rattle.fc_values.specs.Positions.{argument_nth}
use Rattle.fc_nodes.specs.Terms.{Evolution, Term, Terms, Plain, Apply, Nbr, Evolve, If, Let, NoMore, More, term_type}
use Rattle.interval_facts.specs.Ranges.{RangeValue, LiesIn}
use Rattle.interval_facts.proofs.Pointwise.{pointwise_nth}
use Rattle.fc_nodes.specs.Variables.{occurs, occurs_in, is_heard}
use Rattle.growth_facts.specs.Beside.{FieldPair, Beside, apart, heard, joined, BesideAll, no_more, one_more, IsPart}
use Rattle.growth_facts.proofs.FieldPairs.{field_nth}
use Rattle.growth_facts.proofs.Grow.{heard_uses, apply_not_heard, both_fit, within_of}
use Rattle.fragment_check.specs.Shapes.{int_of, IsGuard, guards, Guarded, AllGuarded}

-- fields over the same devices with the same entries
entries_equal : (es fs : Entries) → devices es ≡ devices fs → ((i : ℕ) → i < length es → (get_or es i (0, IntValue 0)).1 ≡ (get_or fs i (0, IntValue 0)).1) → es ≡ fs
entries_equal [] [] q h = refl
entries_equal [] (f ∷ fs) q h = absurd cc
entries_equal (e ∷ es) [] q h = absurd cc
entries_equal (e ∷ es) (f ∷ fs) q h =
    let first : e.0 ≡ f.0 = cc in
    let rest : devices es ≡ devices fs = cc in
    let value : e.1 ≡ f.1 = h 0 (omega arith) in
    let ih = entries_equal es fs rest (λ i l. h (suc i) (omega (arith, l))) in
    ap (λ (z : ℕ × LocalValue). z ∷ es) (pair_same e f first value) ∙ ap (λ (zs : Entries). f ∷ zs) ih
  where
    pair_of : ℕ → LocalValue → ℕ × LocalValue
    pair_of n v = (n, v)

    pair_same : (e f : ℕ × LocalValue) → e.0 ≡ f.0 → e.1 ≡ f.1 → e ≡ f
    pair_same e f q r = ap (λ (n : ℕ). pair_of n e.1) q ∙ ap (pair_of f.0) r

values_equal : (m : ℕ) (ds : List ℕ) (t : ValueType) (v w : AnyValue) → FitsOver m ds t v → FitsOver m ds t w → 1 ≤ length ds → ((i : ℕ) → i < length ds → argument_nth i v ≡ argument_nth i w) → v ≡ w
values_equal m ds (TypeLocal t) (ValueLocal v) (ValueLocal w) f g l h = ap ValueLocal (h 0 l)
values_equal m ds (TypeField t) (ValueField es) (ValueField fs) f g l h =
    let long = ap length f.0 in ap ValueField (entries_equal es fs (f.0 ∙ sym g.0) (λ i u. h i (omega (arith, u, long, length-map es device_of))))
values_equal m ds (TypeLocal t) (ValueLocal v) (ValueField fs) f g l h = absurd g
values_equal m ds (TypeLocal t) (ValueField es) w f g l h = absurd f
values_equal m ds (TypeField t) (ValueField es) (ValueLocal w) f g l h = absurd g
values_equal m ds (TypeField t) (ValueLocal v) w f g l h = absurd f

-- `mux(c, y, s)` where c is true exactly at the devices below, and y is the same there
guarded_same : (m d : ℕ) (ds : List ℕ) (t : ValueType) (c y y' s v w : AnyValue) (below : ℕ → Bool) → 1 ≤ length ds → FitsOver m ds t v → FitsOver m ds t w
    → ((i : ℕ) → i < length ds → argument_nth i c ≡ BoolValue (below (get_or ds i 0))) → ((i : ℕ) → i < length ds → below (get_or ds i 0) ≡ true → argument_nth i y ≡ argument_nth i y')
    → builtin_value op.Mux m d (c ∷ y ∷ s ∷ []) ≡ Some v → builtin_value op.Mux m d (c ∷ y' ∷ s ∷ []) ≡ Some w → v ≡ w
guarded_same m d ds t c y y' s v w below some f g cond same q q' = values_equal m ds t v w f g some (λ i l.
    by_truth i l (below (get_or ds i 0)) refl (cond i l) ((pointwise_nth op.Mux m d (c ∷ y ∷ s ∷ []) v refl q).each i (within_of m ds t v i f l)) ((pointwise_nth op.Mux m d (c ∷ y' ∷ s ∷ []) w refl q').each i (within_of m ds t w i g l)))
  where
    by_truth : (i : ℕ) → i < length ds → (b : Bool) → below (get_or ds i 0) ≡ b → argument_nth i c ≡ BoolValue (below (get_or ds i 0))
        → local_value op.Mux m (argument_nth i c ∷ argument_nth i y ∷ argument_nth i s ∷ []) ≡ Some (argument_nth i v) → local_value op.Mux m (argument_nth i c ∷ argument_nth i y' ∷ argument_nth i s ∷ []) ≡ Some (argument_nth i w) → argument_nth i v ≡ argument_nth i w
    by_truth i l true k e h h' =
        let e' : argument_nth i c ≡ BoolValue true = e ∙ ap BoolValue k in
        let a : Some (argument_nth i y) ≡ Some (argument_nth i v) = rw e' at h in let b : Some (argument_nth i y') ≡ Some (argument_nth i w) = rw e' at h' in let z = same i l k in cc
    by_truth i l false k e h h' =
        let e' : argument_nth i c ≡ BoolValue false = e ∙ ap BoolValue k in
        let a : Some (argument_nth i s) ≡ Some (argument_nth i v) = rw e' at h in let b : Some (argument_nth i s) ≡ Some (argument_nth i w) = rw e' at h' in cc

-- `nbr{q} < q`
abbrev pub comparing : ℕ → ValueType → ValueType → Term
comparing q u v = Apply u op.Less (More (Nbr v (int_of q)) (More (int_of q) NoMore))

-- A part of a body lies in its range, and a comparison of the potential q is true at the devices below
abbrev pub IsPartBelow : ℕ → List ℕ → (ℕ → RangeValue) → ℕ → (ℕ → Bool) → ℕ → Term → AnyValue → Type 0
IsPartBelow m ds rs q below p h w = IsPart m ds rs p h w
    × ((u v : ValueType) → h ≡ comparing q u v → (i : ℕ) → i < length ds → argument_nth i w ≡ BoolValue (below (get_or ds i 0)))

module _ (m d : ℕ) (ds : List ℕ) (e : Evolution) (x q : ℕ) (rs : ℕ → RangeValue) (below : ℕ → Bool) (rising : rises ds ≡ true) (some : 1 ≤ length ds) where
  -- the same at the devices below
  abbrev pub SameBelow : ℕ → LocalValue → LocalValue → Type 0
  SameBelow n v w = below n ≡ true → v ≡ w

  abbrev Near : AnyValue → AnyValue → Type 0
  Near = FieldPair SameBelow

  abbrev Part : ℕ → Term → AnyValue → Type 0
  Part = IsPartBelow m ds rs q below

  part : (p : ℕ) (h : Term) (w : AnyValue) → Part p h w → FitsOver m ds (term_type h) w × LiesIn (rs p) w
  part p h w z = z.0

  apart_is : {p : ℕ} {h : Term} {v w : AnyValue} → Beside m d ds e x Near Part p h v w → occurs x h ≡ false → (v ≡ w) × Part p h w
  apart_is (apart p h o z k) n = (z, k)
  apart_is (heard p h o z g g') n = let u = heard_uses e x h o in absurd cc
  apart_is (joined p t o xs vs ws rule u b z z') n = absurd cc

  heard_is : {p : ℕ} {h : Term} {v w : AnyValue} → Beside m d ds e x Near Part p h v w → is_heard e x h ≡ true → Near v w × FitsOver m ds (term_type h) v
  heard_is (apart p h o z k) n = let u = heard_uses e x h n in absurd cc
  heard_is (heard p h o z g g') n = (z, g)
  heard_is (joined p t o xs vs ws rule u b z z') n = absurd (apply_not_heard e x t o xs n)

  guard_equal : {v w : AnyValue} (p : ℕ) (t : ValueType) (o : Builtin) (xs : Terms) (vs ws : List AnyValue) → IsGuard e x q (Apply t o xs) → FitsOver m ds t v → FitsOver m ds t w
      → BesideAll m d ds e x Near Part p xs vs ws → builtin_value o m d vs ≡ Some v → builtin_value o m d ws ≡ Some w → v ≡ w
  guard_equal {v} {w} p t o xs vs ws (guards t' u' v' h s hd nq ns) f g (one_more p1 c ts1 cv cw vs1 ws1 bc (one_more p2 h1 ts2 hv hw vs2 ws2 bh (one_more p3 s1 ts3 sv sw vs3 ws3 bs (no_more p4)))) z z' =
      let without : occurs x (comparing q u' v') ≡ false = rw nq refl in
      let same_c = apart_is bc without in
      let same_s = apart_is bs ns in
      let there = heard_is bh hd in
      let z1 : builtin_value op.Mux m d (cw ∷ hv ∷ sw ∷ []) ≡ Some v = subst (λ y. builtin_value op.Mux m d (y ∷ hv ∷ sw ∷ []) ≡ Some v) same_c.0 (subst (λ y. builtin_value op.Mux m d (cv ∷ hv ∷ y ∷ []) ≡ Some v) same_s.0 z) in
      guarded_same m d ds t cw hv hw sw v w below some f g (same_c.1.1 u' v' refl) (λ i l k. field_nth SameBelow m ds (term_type h) hv hw i l there.0 there.1 k) z1 z'

  not_guarded : (h : Term) → is_heard e x h ≡ true → Guarded e x q h → ⊥
  not_guarded (Plain t l) o g = let u = heard_uses e x (Plain t l) o in absurd cc
  not_guarded (Nbr t a) o g = let u = heard_uses e x (Nbr t a) o in absurd cc
  not_guarded (Apply t f xs) o g = apply_not_heard e x t f xs o
  not_guarded (Evolve t f a u) o g = let z = heard_uses e x (Evolve t f a u) o in absurd cc
  not_guarded (If t c u w) o g = let z = heard_uses e x (If t c u w) o in absurd cc
  not_guarded (Let t a u) o g = let z = heard_uses e x (Let t a u) o in absurd cc

  mutual
    -- a guarded term has one value
    pub guarded_equal : {p : ℕ} {h : Term} {v w : AnyValue} → Beside m d ds e x Near Part p h v w → Guarded e x q h → v ≡ w
    guarded_equal (apart p h o z k) g = z
    guarded_equal (heard p h o z f f') g = absurd (not_guarded h o g)
    guarded_equal (joined {v} {w} p t o xs vs ws rule u b z z') g =
        by_guard g.1 (both_fit m d ds e x Near Part rs rising part (joined {v = v} {w = w} p t o xs vs ws rule u b z z')) (λ k. all_equal b k)
      where
        by_guard : IsGuard e x q (Apply t o xs) ⊎ AllGuarded e x q xs → FitsOver m ds t v × FitsOver m ds t w → (AllGuarded e x q xs → vs ≡ ws) → v ≡ w
        by_guard (inl k) f ih = guard_equal (suc p) t o xs vs ws k f.0 f.1 b z z'
        by_guard (inr k) f ih = let r : Some v ≡ Some w = sym z ∙ ap (builtin_value o m d) (ih k) ∙ z' in cc

    all_equal : {p : ℕ} {xs : Terms} {vs ws : List AnyValue} → BesideAll m d ds e x Near Part p xs vs ws → AllGuarded e x q xs → vs ≡ ws
    all_equal (no_more p) g = refl
    all_equal (one_more p t ts v w vs ws b bs) g = let f = guarded_equal b g.0 in let r = all_equal bs g.1 in rw (f, r) refl

-- the potential is another binder's
mutual
  pub other_binder : (e : Evolution) (x q : ℕ) (h : Term) → Guarded e x q h → occurs x h ≡ true → nat_eq q x ≡ false
  other_binder e x q (Plain t l) g o = absurd cc
  other_binder e x q (Nbr t a) g o = absurd cc
  other_binder e x q (Apply t b xs) g o = by_guard b xs g.1 (λ k. all_other e x q xs k o)
    where
      by_guard : (b : Builtin) (xs : Terms) → IsGuard e x q (Apply t b xs) ⊎ AllGuarded e x q xs → (AllGuarded e x q xs → nat_eq q x ≡ false) → nat_eq q x ≡ false
      by_guard b xs (inl (guards t' u v h s hd nq ns)) ih = nq
      by_guard b xs (inr k) ih = ih k
  other_binder e x q (Evolve t b a u) g o = absurd cc
  other_binder e x q (If t c u w) g o = absurd cc
  other_binder e x q (Let t a u) g o = absurd cc

  all_other : (e : Evolution) (x q : ℕ) (xs : Terms) → AllGuarded e x q xs → occurs_in x xs ≡ true → nat_eq q x ≡ false
  all_other e x q NoMore g o = absurd cc
  all_other e x q (More h hs) g o = by_test (occurs x h) refl o (λ k. other_binder e x q h g.0 k) (λ k. all_other e x q hs g.1 k)
    where
      by_test : (c : Bool) → occurs x h ≡ c → (c || occurs_in x hs) ≡ true → (occurs x h ≡ true → nat_eq q x ≡ false) → (occurs_in x hs ≡ true → nat_eq q x ≡ false) → nat_eq q x ≡ false
      by_test true k o f g = f k
      by_test false k o f g = g o
