-- Two values of a body whose variable has two maps: where these are close at a stage, the values are at the next one.
use Rattle.std.proofs.Common.{◌≡◌, ◌≢◌, ℕ, suc, ◌≤◌, ◌<◌, ◌+◌, ◌*◌, [], ◌∷◌, refl, sym, ◌∙◌, ap, subst, arith, Bool, true, false, nat_lt, min}
use Rattle.std.proofs.lemmas.Bool.Decides.{nat_tests}
use Rattle.fc_values.specs.declared.builtins.Builtin.TheVariants as op
use Rattle.fc_values.specs.Types.{LocalType, ValueType, TypeLocal, TypeField}
use Rattle.fc_values.specs.Values.{LocalValue}
use Rattle.fc_values.specs.Fields.{ValueLocal}
use Rattle.fc_values.specs.BuiltinTypes.{inner}
use Rattle.fc_values.proofs.Rising.{rises_test}
use Rattle.fc_nodes.specs.Terms.{Evolution, Term, Apply, NoMore, More, term_type, size}
use Rattle.topology.specs.Networks.{Network, IsNetwork}
use Rattle.interval_facts.specs.Solutions.{Devices, In, ValueMap, ValueMaps, around, local_map, evolved, Solves}
use Rattle.interval_facts.specs.Claims.{InRanges}
use Rattle.fc_nodes.specs.Variables.{occurs}
use Rattle.growth_facts.specs.Leads.{Close}
use Rattle.growth_facts.specs.Growth.{Grows, growth_of}
use Rattle.growth_facts.specs.Beside.{FieldPair, Beside, Shallow, IsPart}
use Rattle.fragment_check.specs.Shapes.{Guarded}
use Rattle.converge_laws.specs.Stages.{integer_of}
use Rattle.converge_laws.specs.Fragment.{Analysis, TermInFragment}
use Rattle.converge_laws.proofs.Around.{heard_in, around_up, solution_fits}
use Rattle.interval_facts.proofs.Claims.{some_around}
use Rattle.converge_laws.proofs.Below.{compared_is}
use Rattle.converge_laws.proofs.Climb.{close_less}
use Rattle.converge_laws.proofs.Exact.{hood_types, head_of}
use Rattle.converge_laws.proofs.Guarded.{IsPartBelow, SameBelow, guarded_equal}
use Rattle.converge_laws.proofs.Minimise.{grows}
use Rattle.converge_laws.proofs.Ranged.{lies_of}
use Rattle.converge_laws.proofs.Solved.{solved}
use Rattle.converge_laws.proofs.Agreement.{AgreeFor, local_same}

module _ (A : Analysis) (N : Network) (net : IsNetwork N) where
  abbrev M : ℕ
  M = N.declared.ceiling

  -- a term has one solution at most, where its binders have the same maps
  abbrev pub OneOf : Term → Type 0
  OneOf t = (p : ℕ) (D : Devices) (V W : ValueMaps) (F G : ValueMap) → TermInFragment A M p t → AgreeFor D t V W → Solves N p t D V F → (r : Solves N p t D W G) → InRanges A.ranges N p t D W G r → (d : ℕ) → In D d → F d ≡ G d

  module _ (e : Evolution) (x : ℕ) (ty : LocalType) (D : Devices) (V W : ValueMaps) (f f' r r' : ℕ → LocalValue) (vs : (n : ℕ) → V x n ≡ evolved e N D f n) (ws : (n : ℕ) → W x n ≡ evolved e N D f' n) where
    -- the other binders of a term have the same maps
    abbrev pub AgreeBeside : Term → Type 0
    AgreeBeside t = (q : ℕ) → occurs q t ≡ true → q ≢ x → (n : ℕ) → In D n → V q n ≡ W q n

    agree_apart : (t : Term) → occurs x t ≡ false → AgreeBeside t → AgreeFor D t V W
    agree_apart t n h q o d i = h q o (λ z. let o' : occurs x t ≡ true = subst (λ y. occurs y t ≡ true) z o in absurd cc) d i

    -- the least of a neighbourhood
    pub next_hood : (p : ℕ) (t : ValueType) (h l : Term) (c : ℕ) (F G : ValueMap) → Shallow e x ty (Apply t op.MinHoodLoc (More h (More l NoMore))) → occurs x l ≡ false → growth_of M A.ranges e x (suc p) h ≡ Grows c
        → TermInFragment A M p (Apply t op.MinHoodLoc (More h (More l NoMore))) → AgreeBeside (Apply t op.MinHoodLoc (More h (More l NoMore))) → ((y : Term) → size y ≤ size (Apply t op.MinHoodLoc (More h (More l NoMore))) → OneOf y)
        → Solves N p (Apply t op.MinHoodLoc (More h (More l NoMore))) D V F → (z : Solves N p (Apply t op.MinHoodLoc (More h (More l NoMore))) D W G) → InRanges A.ranges N p (Apply t op.MinHoodLoc (More h (More l NoMore))) D W G z
        → ((n : ℕ) → In D n → F n ≡ ValueLocal (r n)) → ((n : ℕ) → In D n → G n ≡ ValueLocal (r' n)) → (i : ℕ) → ((n : ℕ) → In D n → Close (min M (i * c)) (f n) (f' n)) → (n : ℕ) → In D n → Close (min M (suc i * c)) (r n) (r' n)
    next_hood p t h l c F G sh o gr fr ag P s z rr fe ge i close n m =
        let T : Term = Apply t op.MinHoodLoc (More h (More l NoMore)) in
        let k : ℕ = min M (i * c) in
        let b = solved N net D n m e x ty (λ q y z. Close k y z × (z ≡ f' q)) (IsPart M (around N D n) A.ranges) V W f f' vs ws (λ q j. (close q j, refl)) A
        (λ q y G z w. (solution_fits N net y q D W G z n m, lies_of A.ranges N q y D W G z w n m))
        T (λ y g q F G n0 ag' fr' s' r' w. P y g q D V W F G fr' (agree_apart y n0 ag') s' r' w n m) p F G sh ag fr s z rr in
        let types = hood_types (term_type h ∷ term_type l ∷ []) t sh.0 in
        let two = head_of (term_type h) (term_type l) (TypeField types.of) (TypeLocal types.of) [] [] types.arguments in
        let b' : Beside M n (around N D n) e x (FieldPair (λ q y z. Close k y z × (z ≡ f' q))) (IsPart M (around N D n) A.ranges) p T (ValueLocal (r n)) (ValueLocal (r' n)) =
        subst (λ y. Beside M n (around N D n) e x (FieldPair (λ q y z. Close k y z × (z ≡ f' q))) (IsPart M (around N D n) A.ranges) p T (ValueLocal (r n)) y) (ge n m)
        (subst (λ y. Beside M n (around N D n) e x (FieldPair (λ q y z. Close k y z × (z ≡ f' q))) (IsPart M (around N D n) A.ranges) p T y (G n)) (fe n m) b) in
        close_less (min M (suc i * c)) (min M (k + c)) (r n) (r' n) (omega arith)
        (grows M n k c (around N D n) e x f' A.ranges (rises_test (around N D n) (around_up N net D n)) p t h l (r n) (r' n) o gr (ap inner two.0 ∙ sym (ap inner two.1)) b')

    -- a guarded body: where the maps are the same below a potential
    pub next_low : (p q : ℕ) (u : Term) → Shallow e x ty u → Guarded e x q u → TermInFragment A M p u → AgreeBeside u → ((y : Term) → size y ≤ size u → OneOf y)
        → Solves N p u D V (local_map r) → (z : Solves N p u D W (local_map r')) → InRanges A.ranges N p u D W (local_map r') z
        → (i : ℕ) → ((n : ℕ) → In D n → integer_of (W q n) < i → f n ≡ f' n) → (n : ℕ) → In D n → integer_of (W q n) < suc i → r n ≡ r' n
    next_low p q u sh gd fr ag P s z rr i close n m less =
        let ds = around N D n in
        let rising = rises_test ds (around_up N net D n) in
        let some = some_around n (heard_in N D n) in
        let b = solved N net D n m e x ty (SameBelow M n ds e x q A.ranges below rising some) (IsPartBelow M ds A.ranges q below) V W f f' vs ws (λ k j b. close k j (lower k b)) A
        (λ k y G z w. (
          (solution_fits N net y k D W G z n m, lies_of A.ranges N k y D W G z w n m),
          λ u' v' same i l. (compared_is N net D W q k u' v' G (subst (λ x. Solves N k x D W G) same z) n m i l).0,
        ))
        u (λ y g q F G n0 ag' fr' s' r' w. P y g q D V W F G fr' (agree_apart y n0 ag') s' r' w n m) p (local_map r) (local_map r') sh ag fr s z rr in
        local_same (r n) (r' n) (guarded_equal M n ds e x q A.ranges below rising some b gd)
      where
        below : ℕ → Bool
        below k = nat_lt (integer_of (W q k)) (integer_of (W q n))

        lower : (k : ℕ) → below k ≡ true → integer_of (W q k) < i
        lower k b = let z : integer_of (W q k) < integer_of (W q n) = grind (arith, b, nat_tests) in omega (arith, z, less)
