-- Crates above cite this module: solutions of a node from solutions of its kids.
use Rattle.std.proofs.Common.{◌≡◌, ℕ, suc, ◌≤◌, ◌+◌, List, [], ◌∷◌, map, refl, sym, ◌∙◌, ap, arith, Bool, true, false, ◌||◌, ◌&&◌, Option, Some, None, min}
use Rattle.std.specs.Prelude.{if◌then◌else◌, filter, slice_get}
use Rattle.fc_values.specs.declared.builtins.Builtin.{Builtin}
use Rattle.fc_values.specs.Types.{LocalType, IntType, BoolType, PairType, ValueType, TypeLocal, TypeField}
use Rattle.fc_values.specs.Values.{LocalValue, IntValue, BoolValue, PairValue, Fits}
use Rattle.fc_values.specs.Fields.{AnyValue, ValueLocal, AllFit, FitsOver, FitEachOver, with_number, restricted}
use Rattle.fc_values.specs.Builtins.{builtin_value}
use Rattle.fc_values.specs.BuiltinTypes.{HasRule}
use Rattle.fc_values.proofs.BuiltinTyped.{builtin_typed}
use Rattle.fc_nodes.specs.Terms.{Leaf, Literal, Variable, Sense, Uid, NbrLink, Evolution, ByRep, ByShare, Term, Terms, Plain, Apply, Nbr, Evolve, If, Let, NoMore, More, term_type, size}
use Rattle.fc_nodes.specs.Typing.{Scope, evolving_type, types_of, LeafHasType}
use Rattle.alignment.specs.Environments.{same_truth}
use Rattle.topology.specs.Networks.{Network, Lives, numbers, near, IsNetwork}
use Rattle.alignment.proofs.Entries.{devices_with}
use Rattle.device_eval.proofs.Sights.{fit_with, restricted_fits}
use Rattle.topology.proofs.Lemmas.{AllNear, near_fits}
use Rattle.interval_facts.specs.Solutions.{Devices, In, ValueMap, ValueMaps, bind, near_among, around, field_around, at_device, field_of, local_map, evolved, where_is, LeafIs, Solves, SolveAll}
use Rattle.fc_nodes.specs.Variables.{occurs, occurs_in}
use Rattle.converge_laws.proofs.Near.{is_same, in_part}
use Rattle.converge_laws.proofs.Given.{situation_at}
use Rattle.converge_laws.proofs.Step.{or_left, or_right, self_eq}
use Rattle.converge_laws.proofs.Agreement.{AgreeFor, AgreeIn, bind_agree, bind_apart}
use Rattle.converge_laws.proofs.Around.{heard_in, entries_over, some_or, local_in, local_back, around_up, VarOn, VarsOn, bound_on, field_fits, solution_fits}
use Rattle.fc_values.proofs.Rising.{rises_test}
use Rattle.device_eval.specs.Conditions.{Suits}
use Rattle.topology.specs.Nearby.{neighbour_numbers}
use Rattle.rise.proofs.WithoutRise.{solves_agree}

module _ (N : Network) (net : IsNetwork N) where
  abbrev M : ℕ
  M = N.declared.ceiling

  leaf_vars : (D : Devices) (l : Leaf) (V W : ValueMaps) (d : ℕ) (v : AnyValue) → ((q : ℕ) → l ≡ Variable q → V q d ≡ W q d) → LeafIs N D l V d v → LeafIs N D l W d v
  leaf_vars D (Literal x) V W d v e h = h
  leaf_vars D (Variable q) V W d v e h = h ∙ ap (restricted d (neighbour_numbers (near_among N D d))) (e q refl)
  leaf_vars D (Sense i) V W d v e h = h
  leaf_vars D Uid V W d v e h = h
  leaf_vars D NbrLink V W d v e h = h

  mutual
    -- and on the maps of the binders that occur
    pub solves_vars : (t : Term) (p : ℕ) (D : Devices) (V W : ValueMaps) (F : ValueMap) → AgreeFor D t V W → Solves N p t D V F → Solves N p t D W F
    solves_vars (Plain t l) p D V W F h s = (s.0, (λ d i. leaf_vars D l V W d (F d) (λ q e. let o : occurs q (Plain t l) ≡ true = rw e (self_eq q) in h q o d i) (s.1 d i)))
    solves_vars (Apply t o xs) p D V W F h s = (s.0, s.1, all_vars xs (suc p) D V W s.1 h s.2, s.3)
    solves_vars (Nbr t a) p D V W F h s = (s.0, s.1, solves_vars a (suc p) D V W (local_map s.1) h s.2, s.3)
    solves_vars (Evolve t e a u) p D V W F h s =
        (s.0, s.1, solves_vars u (suc p + size a) D (bind p (evolved e N D s.1) V) (bind p (evolved e N D s.1) W) (local_map s.1) (bind_agree N D p u (evolved e N D s.1) (evolved e N D s.1) V W (λ d i. refl) (λ q o. h q (or_right (occurs q a) (occurs q u) o))) s.2, s.3)
    solves_vars (If t c u w) p D V W F h s = (
      s.0,
      s.1,
      solves_vars c (suc p) D V W (local_map (λ d. BoolValue (s.1 d))) (λ q o. h q (or_left (occurs q c) (occurs q u || occurs q w) o)) s.2,
      solves_vars u (suc p + size c) (where_is true D s.1) V W F (λ q o n m. h q (or_right (occurs q c) (occurs q u || occurs q w) (or_left (occurs q u) (occurs q w) o)) n (in_part true D s.1 n m)) s.3,
      solves_vars w (suc p + size c + size u) (where_is false D s.1) V W F (λ q o n m. h q (or_right (occurs q c) (occurs q u || occurs q w) (or_right (occurs q u) (occurs q w) o)) n (in_part false D s.1 n m)) s.4,
    )
    solves_vars (Let t a u) p D V W F h s = (
      s.0,
      s.1,
      solves_vars a (suc p) D V W s.1 (λ q o. h q (or_left (occurs q a) (occurs q u) o)) s.2,
      solves_vars u (suc p + size a) D (bind p s.1 V) (bind p s.1 W) F (bind_agree N D p u s.1 s.1 V W (λ d i. refl) (λ q o. h q (or_right (occurs q a) (occurs q u) o))) s.3,
    )

    pub all_vars : (xs : Terms) (p : ℕ) (D : Devices) (V W : ValueMaps) (Gs : List ValueMap) → AgreeIn D xs V W → SolveAll N p xs D V Gs → SolveAll N p xs D W Gs
    all_vars NoMore p D V W [] h s = tt
    all_vars NoMore p D V W (G ∷ Gs) h s = absurd s
    all_vars (More x xs) p D V W [] h s = absurd s
    all_vars (More x xs) p D V W (G ∷ Gs) h s = (solves_vars x p D V W G (λ q o. h q (or_left (occurs q x) (occurs_in q xs) o)) s.0, all_vars xs (p + size x) D V W Gs (λ q o. h q (or_right (occurs q x) (occurs_in q xs) o)) s.1)

  -- a value of each type
  pub some_value : LocalType → LocalValue
  some_value IntType = IntValue 0
  some_value BoolType = BoolValue true
  some_value (PairType s t) = PairValue (some_value s) (some_value t)

  pub some_fits : (s : LocalType) → Fits M s (some_value s)
  unfolding some_value
  some_fits IntType = omega arith
  some_fits BoolType = tt
  some_fits (PairType s t) = (some_fits s, some_fits t)

  module _ (least : N.declared.least ≤ M) (greatest : N.declared.greatest ≤ M) (suits : (d : ℕ) → Lives N d → Suits N.declared (situation_at N d)) where
    weights_fit : (d : ℕ) (ns : List (ℕ × ℕ)) → AllNear N.declared (numbers N.devices) d ns → (q : ℕ × ℕ → Bool) → AllFit M IntType (map (λ (n : ℕ × ℕ). (n.0, IntValue n.1)) (filter q ns))
    weights_fit d [] h q = tt
    weights_fit d (n ∷ ns) h q = by_test (q n) refl (weights_fit d ns h.1 q)
      where
        by_test : (c : Bool) → q n ≡ c → AllFit M IntType (map (λ (n : ℕ × ℕ). (n.0, IntValue n.1)) (filter q ns)) → AllFit M IntType (map (λ (n : ℕ × ℕ). (n.0, IntValue n.1)) (filter q (n ∷ ns)))
        by_test true k r = let b = h.0.below in rw k (omega (arith, b, greatest), r)
        by_test false k r = rw k r

    pub leaf_exists : (t : ValueType) (l : Leaf) (scope : Scope) (p : ℕ) (D : Devices) (V : ValueMaps) → ((d : ℕ) → In D d → Lives N d) → LeafHasType N.declared scope t l → VarsOn N net D scope V → (F : ValueMap) × Solves N p (Plain t l) D V F
    leaf_exists t (Literal (IntValue n)) scope p D V live ty h = ((λ d. ValueLocal (IntValue n)), ((λ d i. rw ty.0 ty.1), (λ d i. refl)))
    leaf_exists t (Literal (BoolValue b)) scope p D V live ty h = ((λ d. ValueLocal (BoolValue b)), ((λ d i. rw ty tt), (λ d i. refl)))
    leaf_exists t (Literal (PairValue a b)) scope p D V live ty h = absurd ty
    leaf_exists t (Variable q) scope p D V live ty h = ((λ d. restricted d (neighbour_numbers (near_among N D d)) (V q d)), ((λ d i. restricted_fits d (heard_in N D d) M t (V q d) (h q t ty d i)), (λ d i. refl)))
    leaf_exists t (Sense k) scope p D V live ty h = (
      (λ d. input_or (slice_get (situation_at N d).inputs k)),
      (
        (λ d i. let r = (suits d (live d i)).inputs k ty.0 ty.1 in let e = r.is in rw (ty.2, e) r.fits),
        (λ d i. let r = (suits d (live d i)).inputs k ty.0 ty.1 in let e = r.is in (r.value, e, ap input_or e)),
      ),
    )
      where
        input_or : Option LocalValue → AnyValue
        input_or None = ValueLocal (IntValue 0)
        input_or (Some v) = ValueLocal v
    leaf_exists t Uid scope p D V live ty h = ((λ d. ValueLocal (IntValue (min d M))), ((λ d i. rw ty (omega arith)), (λ d i. refl)))
    leaf_exists t NbrLink scope p D V live ty h = (
      (λ d. field_around d (IntValue N.declared.least) (near_among N D d) (λ n. IntValue n.1)),
      (
        (λ d i. rw ty (
          devices_with d (IntValue N.declared.least) (map (λ (n : ℕ × ℕ). (n.0, IntValue n.1)) (near_among N D d)) ∙ ap (with_number d) (entries_over (λ n. IntValue n.1) (near_among N D d)),
          fit_with M IntType d (IntValue N.declared.least) (map (λ (n : ℕ × ℕ). (n.0, IntValue n.1)) (near_among N D d)) least (weights_fit d (near N d) (near_fits N.declared (numbers N.devices) d N.links net.links) (λ n. D n.0)),
        )),
        (λ d i. refl),
      ),
    )

    pub apply_exists : (t : ValueType) (o : Builtin) (xs : Terms) (p : ℕ) (D : Devices) (V : ValueMaps) (Gs : List ValueMap) → HasRule o (types_of xs) t → SolveAll N (suc p) xs D V Gs
        → ((d : ℕ) → In D d → FitEachOver M (around N D d) (types_of xs) (at_device d Gs)) → (F : ValueMap) × Solves N p (Apply t o xs) D V F
    apply_exists t o xs p D V Gs rule s fit = (
      (λ d. some_or (builtin_value o M d (at_device d Gs))),
      (
        (λ d i. let b = made d i in let e = b.1 in rw e b.2),
        Gs,
        s,
        (λ d i. let b = made d i in let e = b.1 in rw e refl),
      ),
    )
      where
        made : (d : ℕ) → In D d → (v : AnyValue) × (builtin_value o M d (at_device d Gs) ≡ Some v) × FitsOver M (around N D d) t v
        made d i = builtin_typed o M d (around N D d) (types_of xs) t (at_device d Gs) rule (rises_test (around N D d) (around_up N net D d)) (fit d i)

    -- a solution of local type, as local values
    pub as_local : (t : Term) (s : LocalType) (p : ℕ) (D : Devices) (V : ValueMaps) (F : ValueMap) → term_type t ≡ TypeLocal s → Solves N p t D V F → (g : ℕ → LocalValue) × Solves N p t D V (local_map g) × ((d : ℕ) → In D d → F d ≡ ValueLocal (g d)) × ((d : ℕ) → In D d → Fits M s (g d))
    as_local t s p D V F e h =
        let back : (d : ℕ) → In D d → (F d ≡ ValueLocal (local_in (F d))) × Fits M s (local_in (F d)) = λ d i. local_back M (around N D d) (term_type t) s (F d) e (solution_fits N net t p D V F h d i) in
        ((λ d. local_in (F d)), solves_agree N t p D V F (local_map (λ d. local_in (F d))) (λ d i. (back d i).0) h, (λ d i. (back d i).0), (λ d i. (back d i).1))

    -- fits, where the values outside the set don't
    abbrev pub within : Devices → LocalType → (ℕ → LocalValue) → ℕ → LocalValue
    within D s g = λ d. if D d then g d else some_value s

    pub within_fits : (D : Devices) (s : LocalType) (g : ℕ → LocalValue) → ((d : ℕ) → In D d → Fits M s (g d)) → (d : ℕ) → Fits M s (within D s g d)
    within_fits D s g h d = by_test (D d) refl
      where
        by_test : (c : Bool) → D d ≡ c → Fits M s (if c then g d else some_value s)
        by_test true q = h d q
        by_test false q = some_fits s

    pub within_same : (D : Devices) (s : LocalType) (g : ℕ → LocalValue) (d : ℕ) → In D d → within D s g d ≡ g d
    within_same D s g d i = rw i refl

    pub evolved_on : (e : Evolution) (D : Devices) (s : LocalType) (f : ℕ → LocalValue) → ((d : ℕ) → Fits M s (f d)) → VarOn N net D (evolving_type e s) (evolved e N D f)
    evolved_on ByRep D s f h = λ d i. h d
    evolved_on ByShare D s f h = bound_on N net D (TypeField s) (field_of N D f) (field_fits N net D s f h)

    pub nbr_exists : (t : ValueType) (a : Term) (s : LocalType) (p : ℕ) (D : Devices) (V : ValueMaps) (F : ValueMap) → t ≡ TypeField s → term_type a ≡ TypeLocal s → Solves N (suc p) a D V F → (G : ValueMap) × Solves N p (Nbr t a) D V G
    nbr_exists t a s p D V F et ea h =
        let l = as_local a s (suc p) D V F ea h in
        let g = within D s l.0 in
        let h' = solves_agree N a (suc p) D V (local_map l.0) (local_map g) (λ d i. ap ValueLocal (sym (within_same D s l.0 d i))) l.1 in
        (field_of N D g, ((λ d i. rw et (field_fits N net D s g (within_fits D s l.0 l.3) d i)), g, h', (λ d i. refl)))

    pub constant_exists : (t : ValueType) (e : Evolution) (a u : Term) (s : LocalType) (p : ℕ) (D : Devices) (V : ValueMaps) (F : ValueMap) → t ≡ TypeLocal s → term_type u ≡ TypeLocal s → occurs p u ≡ false
        → Solves N (suc p + size a) u D (bind p (evolved e N D (λ d. some_value s)) V) F → (G : ValueMap) × Solves N p (Evolve t e a u) D V G
    constant_exists t e a u s p D V F et eu none h =
        let l = as_local u s (suc p + size a) D (bind p (evolved e N D (λ d. some_value s)) V) F eu h in
        let h' = solves_vars u (suc p + size a) D (bind p (evolved e N D (λ d. some_value s)) V) (bind p (evolved e N D l.0) V) (local_map l.0) (bind_apart N D p u (evolved e N D (λ d. some_value s)) (evolved e N D l.0) V V none (λ q o d i. refl)) l.1 in
        (local_map l.0, ((λ d i. rw et (l.3 d i)), l.0, h', (λ d i. refl)))

    pub if_exists : (t : ValueType) (c u w : Term) (s : LocalType) (p : ℕ) (D : Devices) (V : ValueMaps) (k : ℕ → Bool) (A B : ValueMap) → t ≡ TypeLocal s → term_type u ≡ TypeLocal s → term_type w ≡ TypeLocal s
        → Solves N (suc p) c D V (local_map (λ d. BoolValue (k d))) → Solves N (suc p + size c) u (where_is true D k) V A → Solves N (suc p + size c + size u) w (where_is false D k) V B → (F : ValueMap) × Solves N p (If t c u w) D V F
    if_exists t c u w s p D V k A B et eu ew hc hu hw = (
      pick,
      (
        (λ d i. rw et (by_truth d i (k d) refl)),
        k,
        hc,
        solves_agree N u (suc p + size c) (where_is true D k) V A pick (λ d i. let q = true_there D d i in rw q refl) hu,
        solves_agree N w (suc p + size c + size u) (where_is false D k) V B pick (λ d i. let q = false_there D d i in rw q refl) hw,
      ),
    )
      where
        pick : ValueMap
        pick = λ d. if k d then A d else B d

        inside : (b : Bool) (d : ℕ) → In D d → k d ≡ b → In (where_is b D k) d
        inside b d i q = let t = is_same b (k d) q in rw (i, t) refl

        true_there : (D : Devices) (d : ℕ) → In (where_is true D k) d → k d ≡ true
        true_there D d i = by_test (D d) i
          where
            by_test : (c : Bool) → (c && same_truth true (k d)) ≡ true → k d ≡ true
            by_test true h = h
            by_test false h = absurd cc

        false_there : (D : Devices) (d : ℕ) → In (where_is false D k) d → k d ≡ false
        false_there D d i = by_test (D d) i
          where
            by_truth : (r : Bool) → same_truth false r ≡ true → r ≡ false
            by_truth true h = absurd cc
            by_truth false h = refl

            by_test : (c : Bool) → (c && same_truth false (k d)) ≡ true → k d ≡ false
            by_test true h = by_truth (k d) h
            by_test false h = absurd cc

        local_there : (ds es : List ℕ) (t : ValueType) (v : AnyValue) → t ≡ TypeLocal s → FitsOver M ds t v → FitsOver M es (TypeLocal s) v
        local_there ds es t v e h = let b = local_back M ds t s v e h in let q = b.0 in rw q b.1

        by_truth : (d : ℕ) → In D d → (b : Bool) → k d ≡ b → FitsOver M (around N D d) (TypeLocal s) (if b then A d else B d)
        by_truth d i true q = local_there (around N (where_is true D k) d) (around N D d) (term_type u) (A d) eu (solution_fits N net u (suc p + size c) (where_is true D k) V A hu d (inside true d i q))
        by_truth d i false q = local_there (around N (where_is false D k) d) (around N D d) (term_type w) (B d) ew (solution_fits N net w (suc p + size c + size u) (where_is false D k) V B hw d (inside false d i q))
