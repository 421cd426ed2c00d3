-- A comparison of a potential with its own value at a device: it is true exactly at the devices below.
use Rattle.std.proofs.Common.{◌≡◌, ℕ, suc, ◌≤◌, ◌<◌, ◌+◌, List, [], ◌∷◌, length, get_or, map, refl, sym, ◌∙◌, ap, subst, ◌⊎◌, inl, inr, Bool, true, false, ◌||◌, Some, nat_eq, nat_lt}
use Rattle.std.specs.Prelude.{if◌then◌else◌, filter}
use Rattle.std.specs.Ordering.{nat_cmp}
use Rattle.std.specs.declared.cmp.Ordering.TheVariants as ord
use Rattle.fc_values.specs.declared.builtins.Builtin.{Builtin}
use Rattle.fc_values.specs.declared.builtins.Builtin.TheVariants as op
use Rattle.fc_values.specs.Types.{IntType, ValueType, TypeLocal}
use Rattle.fc_values.specs.Values.{LocalValue, IntValue, BoolValue, PairValue, Fits, is_less}
use Rattle.fc_values.specs.Fields.{AnyValue, ValueLocal, ValueField, FitsOver, restricted}
use Rattle.fc_values.specs.Builtins.{local_value, builtin_value}
use Rattle.fc_values.specs.Positions.{argument_nth}
use Rattle.fc_values.proofs.Numbers.{EachOf}
use Rattle.fc_nodes.specs.Terms.{Evolution, Term, Terms, Plain, Apply, Nbr, Evolve, If, Let, NoMore, More, size}
use Rattle.topology.specs.Networks.{Network, Lives, numbers, near, IsNetwork}
use Rattle.topology.specs.Nearby.{neighbour_numbers}
use Rattle.topology.proofs.Lemmas.{AllNear, near_fits}
use Rattle.interval_facts.specs.Ranges.{RangeValue, IntRange, BoolRange, PairRange, LiesIn}
use Rattle.interval_facts.specs.Solutions.{Devices, In, ValueMap, ValueMaps, near_among, around, at_device, field_of, Solves, SolveAll}
use Rattle.interval_facts.specs.Claims.{InRanges, AllInRanges}
use Rattle.interval_facts.proofs.Pointwise.{pointwise_nth}
use Rattle.growth_facts.specs.Leads.{lead, least_integer, greatest_integer}
use Rattle.fc_nodes.specs.Variables.{occurs, occurs_in}
use Rattle.growth_facts.specs.Beside.{Pairs}
use Rattle.growth_facts.proofs.FieldPairs.{field_nth, pairs_with}
use Rattle.growth_facts.proofs.Grow.{within_of}
use Rattle.fragment_check.specs.Shapes.{int_of, IsGuard, guards, Guarded, AllGuarded}
use Rattle.converge_laws.specs.Stages.{integer_of}
use Rattle.converge_laws.specs.Fragment.{Analysis, TermInFragment, TermsInFragment}
use Rattle.converge_laws.proofs.Around.{local_in, local_back}
use Rattle.converge_laws.proofs.Guarded.{comparing}
use Rattle.converge_laws.proofs.Ranged.{lies_of}

less_is : (a b : ℕ) → is_less (nat_cmp a b) ≡ nat_lt a b
less_is a b = by_tests (nat_lt a b) (nat_eq a b)
  where
    by_tests : (c e : Bool) → is_less (if c then ord.Less else (if e then ord.Equal else ord.Greater)) ≡ c
    by_tests true e = refl
    by_tests false true = refl
    by_tests false false = refl

-- an integer that a variable has
variable_is : (n : ℕ) (ns : List ℕ) (x : AnyValue) (m : ℕ) (k : LocalValue) → Fits m IntType k → ValueLocal k ≡ restricted n ns x → k ≡ IntValue (integer_of x)
variable_is n ns (ValueLocal z) m (IntValue b) f e = let z' : IntValue b ≡ z = cc in subst (λ y. IntValue b ≡ IntValue (lead y)) z' refl
variable_is n ns (ValueLocal z) m (BoolValue b) f e = absurd f
variable_is n ns (ValueLocal z) m (PairValue a b) f e = absurd f
variable_is n ns (ValueField es) m k f e = absurd cc

in_range : (r : RangeValue) (v : AnyValue) (n : ℕ) → v ≡ ValueLocal (IntValue n) → LiesIn r v → (least_integer r ≤ n) × (n ≤ greatest_integer r)
in_range (IntRange a b) v n e h = let h' : (a ≤ n) × (n ≤ b) = subst (LiesIn (IntRange a b)) e h in h'
in_range BoolRange v n e h = absurd (subst (LiesIn BoolRange) e h)
in_range (PairRange r s) v n e h = absurd (subst (LiesIn (PairRange r s)) e h)

module _ (N : Network) (net : IsNetwork N) (D : Devices) where
  abbrev M : ℕ
  M = N.declared.ceiling

  -- the neighbours in the set are there
  abbrev pub IsThere : ℕ → Type 0
  IsThere n = In D n × Lives N n

  each_near : (d : ℕ) (ns : List (ℕ × ℕ)) → AllNear N.declared (numbers N.devices) d ns → EachOf IsThere (neighbour_numbers (filter (λ (n : ℕ × ℕ). D n.0) ns))
  each_near d [] a = tt
  each_near d (n ∷ ns) a = by_test (D n.0) refl (each_near d ns a.1)
    where
      by_test : (c : Bool) → D n.0 ≡ c → EachOf IsThere (neighbour_numbers (filter (λ (k : ℕ × ℕ). D k.0) ns)) → EachOf IsThere (neighbour_numbers (filter (λ (k : ℕ × ℕ). D k.0) (n ∷ ns)))
      by_test true i h = rw i ((i, a.0.there), h)
      by_test false i h = rw i h

  -- an entry of a field over a device and its neighbours
  abbrev IsEntry : (ℕ → LocalValue) → ℕ → ℕ → LocalValue → LocalValue → Type 0
  IsEntry g d n v w = (v ≡ g n) × ((n ≡ d) ⊎ IsThere n)

  pairs_each : (g : ℕ → LocalValue) (d : ℕ) (ms : List (ℕ × ℕ)) → EachOf IsThere (neighbour_numbers ms) → Pairs (IsEntry g d) (map (λ (m : ℕ × ℕ). (m.0, g m.0)) ms) (map (λ (m : ℕ × ℕ). (m.0, g m.0)) ms)
  pairs_each g d [] a = tt
  pairs_each g d (m ∷ ms) a = (refl, (refl, inr a.0), pairs_each g d ms a.1)

  field_entry : (g : ℕ → LocalValue) (d : ℕ) (t : ValueType) (i : ℕ) → FitsOver M (around N D d) t (field_of N D g d) → i < length (around N D d)
      → (argument_nth i (field_of N D g d) ≡ g (get_or (around N D d) i 0)) × ((get_or (around N D d) i 0 ≡ d) ⊎ IsThere (get_or (around N D d) i 0))
  field_entry g d t i f l =
      let there = each_near d (near N d) (near_fits N.declared (numbers N.devices) d N.links net.links) in
      let pairs = pairs_with (IsEntry g d) d (g d) (g d) (map (λ (m : ℕ × ℕ). (m.0, g m.0)) (near_among N D d)) (map (λ (m : ℕ × ℕ). (m.0, g m.0)) (near_among N D d)) (refl, inl refl) (pairs_each g d (near_among N D d) there) in
      field_nth (IsEntry g d) M (around N D d) t (field_of N D g d) (field_of N D g d) i l pairs f

  module _ (W : ValueMaps) (q : ℕ) where
    -- the potential of a device
    abbrev pub potential : ℕ → ℕ
    potential n = integer_of (W q n)

    abbrev pub IsCompared : ℕ → ℕ → LocalValue → Type 0
    IsCompared d n v = (v ≡ BoolValue (nat_lt (potential n) (potential d))) × ((n ≡ d) ⊎ IsThere n)

    own_is : (p : ℕ) (G : ValueMap) → Solves N p (int_of q) D W G → (n : ℕ) → In D n → G n ≡ ValueLocal (IntValue (potential n))
    own_is p G s n i =
        let b = local_back M (around N D n) (TypeLocal IntType) IntType (G n) refl (s.0 n i) in
        b.0 ∙ ap ValueLocal (variable_is n (neighbour_numbers (near_among N D n)) (W q n) M (local_in (G n)) b.1 (sym b.0 ∙ s.1 n i))

    -- the comparison at each position
    pub compared_is : (p : ℕ) (u v : ValueType) (G : ValueMap) → Solves N p (comparing q u v) D W G → (d : ℕ) → In D d → (i : ℕ) → i < length (around N D d) → IsCompared d (get_or (around N D d) i 0) (argument_nth i (G d))
    compared_is p u v G s d j i l = by_maps s.1 s.2 (s.3 d j)
      where
        by_maps : (Gs : List ValueMap) → SolveAll N (suc p) (More (Nbr v (int_of q)) (More (int_of q) NoMore)) D W Gs → builtin_value op.Less M d (at_device d Gs) ≡ Some (G d) → IsCompared d (get_or (around N D d) i 0) (argument_nth i (G d))
        by_maps [] z e = absurd z
        by_maps (A ∷ []) z e = absurd z.1
        by_maps (A ∷ B ∷ C ∷ Gs) z e = absurd z.1.1
        by_maps (A ∷ B ∷ []) z e =
            let g = z.0.1 in
            let a : A d ≡ field_of N D g d = z.0.3 d j in
            let b : B d ≡ ValueLocal (IntValue (potential d)) = own_is (suc p + size (Nbr v (int_of q))) B z.1.0 d j in
            let entry = field_entry g d v i (subst (FitsOver M (around N D d) v) a (z.0.0 d j)) l in
            let n = get_or (around N D d) i 0 in
            let inside : In D n = there entry.1 in
            let value : g n ≡ IntValue (potential n) = variable_is n (neighbour_numbers (near_among N D n)) (W q n) M (g n) (z.0.2.0 n inside) (z.0.2.1 n inside) in
            let first : argument_nth i (A d) ≡ IntValue (potential n) = ap (argument_nth i) a ∙ entry.0 ∙ value in
            let second : argument_nth i (B d) ≡ IntValue (potential d) = ap (argument_nth i) b in
            let h = (pointwise_nth op.Less M d (A d ∷ B d ∷ []) (G d) refl e).each i (within_of M (around N D d) u (G d) i (s.0 d j) l) in
            let h1 : local_value op.Less M (IntValue (potential n) ∷ argument_nth i (B d) ∷ []) ≡ Some (argument_nth i (G d)) = subst (λ y. local_value op.Less M (y ∷ argument_nth i (B d) ∷ []) ≡ Some (argument_nth i (G d))) first h in
            let h2 : Some (BoolValue (is_less (nat_cmp (potential n) (potential d)))) ≡ Some (argument_nth i (G d)) = subst (λ y. local_value op.Less M (IntValue (potential n) ∷ y ∷ []) ≡ Some (argument_nth i (G d))) second h1 in
            let h3 : BoolValue (is_less (nat_cmp (potential n) (potential d))) ≡ argument_nth i (G d) = cc in
            (sym h3 ∙ ap BoolValue (less_is (potential n) (potential d)), entry.1)
          where
            there : (get_or (around N D d) i 0 ≡ d) ⊎ IsThere (get_or (around N D d) i 0) → In D (get_or (around N D d) i 0)
            there (inl k) = subst (In D) (sym k) j
            there (inr k) = k.0

    -- the potential lies in the range of its binder's variable
    module _ (A : Analysis) (e : Evolution) (x : ℕ) where
      abbrev pub LiesBetween : Type 0
      LiesBetween = (n : ℕ) → In D n → (least_integer (A.bounds q) ≤ potential n) × (potential n ≤ greatest_integer (A.bounds q))

      from_variable : (p : ℕ) (G : ValueMap) (s : Solves N p (int_of q) D W G) → InRanges A.ranges N p (int_of q) D W G s → A.ranges p ≡ A.bounds q → LiesBetween
      from_variable p G s r k n i = in_range (A.bounds q) (G n) (potential n) (own_is p G s n i) (subst (λ z. LiesIn z (G n)) k (lies_of A.ranges N p (int_of q) D W G s r n i))

      from_guard : (p : ℕ) (b : Builtin) (xs : Terms) (t : ValueType) (Gs : List ValueMap) → IsGuard e x q (Apply t b xs) → (s : SolveAll N p xs D W Gs) → AllInRanges A.ranges N p xs D W Gs s → TermsInFragment A M p xs → LiesBetween
      from_guard p b xs t [] (guards t' u v h w hd nq ns) s r f = absurd s
      from_guard p b xs t (C ∷ Gs) (guards t' u v h w hd nq ns) s r f = by_maps s.0.1 s.0.2 r.0.1
        where
          by_maps : (Hs : List ValueMap) (z : SolveAll N (suc p) (More (Nbr v (int_of q)) (More (int_of q) NoMore)) D W Hs) → AllInRanges A.ranges N (suc p) (More (Nbr v (int_of q)) (More (int_of q) NoMore)) D W Hs z → LiesBetween
          by_maps [] z k = absurd z
          by_maps (G ∷ []) z k = absurd z.1
          by_maps (G ∷ B ∷ C' ∷ Hs) z k = absurd z.1.1
          by_maps (G ∷ B ∷ []) z k = from_variable (suc p + size (Nbr v (int_of q))) B z.1.0 k.1.0 f.0.1.0

      mutual
        -- so it is where a body has a guard
        pub lies_between : (h : Term) → Guarded e x q h → occurs x h ≡ true → (p : ℕ) (G : ValueMap) (s : Solves N p h D W G) → InRanges A.ranges N p h D W G s → TermInFragment A M p h → LiesBetween
        lies_between (Plain t l) g o p G s r f = absurd cc
        lies_between (Nbr t a) g o p G s r f = absurd cc
        lies_between (Apply t b xs) g o p G s r f = by_guard g.1 (λ k. all_between xs k o (suc p) s.1 s.2 r.1 f)
          where
            by_guard : IsGuard e x q (Apply t b xs) ⊎ AllGuarded e x q xs → (AllGuarded e x q xs → LiesBetween) → LiesBetween
            by_guard (inl k) ih = from_guard (suc p) b xs t s.1 k s.2 r.1 f
            by_guard (inr k) ih = ih k
        lies_between (Evolve t b a u) g o p G s r f = absurd cc
        lies_between (If t c u w) g o p G s r f = absurd cc
        lies_between (Let t a u) g o p G s r f = absurd cc

        all_between : (xs : Terms) → AllGuarded e x q xs → occurs_in x xs ≡ true → (p : ℕ) (Gs : List ValueMap) (s : SolveAll N p xs D W Gs) → AllInRanges A.ranges N p xs D W Gs s → TermsInFragment A M p xs → LiesBetween
        all_between NoMore g o p Gs s r f = absurd cc
        all_between (More h hs) g o p [] s r f = absurd s
        all_between (More h hs) g o p (G ∷ Gs) s r f = by_test (occurs x h) refl o (λ k. lies_between h g.0 k p G s.0 r.0 f.0) (λ k. all_between hs g.1 k (p + size h) Gs s.1 r.1 f.1)
          where
            by_test : (c : Bool) → occurs x h ≡ c → (c || occurs_in x hs) ≡ true → (occurs x h ≡ true → LiesBetween) → (occurs_in x hs ≡ true → LiesBetween) → LiesBetween
            by_test true k o f g = f k
            by_test false k o f g = g o
