-- A body solved again and again, each time with its variable bound to the solution before: after as many turns as there are
-- stages the solution is the one before it, and so it solves the body.
use Rattle.std.proofs.Common.{◌≡◌, ◌≢◌, ℕ, zero, suc, ◌≤◌, ◌<◌, ◌+◌, ◌*◌, ◌/◌, [], ◌∷◌, refl, sym, ap, subst, arith, inr, true, false, nat_eq, min}
use Rattle.std.proofs.lemmas.Bool.Decides.{nat_tests}
use Rattle.fc_values.specs.declared.builtins.Builtin.TheVariants as op
use Rattle.fc_values.specs.Types.{LocalType, ValueType, TypeLocal, TypeField}
use Rattle.fc_values.specs.Values.{LocalValue, IntValue, Fits}
use Rattle.fc_values.specs.Fields.{ValueLocal, FitsOver}
use Rattle.fc_nodes.specs.Terms.{Evolution, ByRep, ByShare, Term, Apply, NoMore, More, term_type, size}
use Rattle.topology.specs.Networks.{Network, IsNetwork}
use Rattle.interval_facts.specs.Ranges.{RangeValue}
use Rattle.interval_facts.specs.Solutions.{Devices, In, ValueMaps, bind, around, local_map, evolved, Solves}
use Rattle.interval_facts.specs.Claims.{InRanges}
use Rattle.fc_nodes.specs.Variables.{occurs}
use Rattle.growth_facts.specs.Leads.{lead, Close, greatest_integer}
use Rattle.growth_facts.specs.Growth.{Grows, growth_of}
use Rattle.growth_facts.specs.Beside.{Shallow}
use Rattle.fragment_check.specs.Patterns.{is_pair_range}
use Rattle.fragment_check.specs.Shapes.{Guarded}
use Rattle.converge_laws.specs.Stages.{integer_of}
use Rattle.converge_laws.specs.Fragment.{Analysis, IsFor, TermInFragment}
use Rattle.converge_laws.proofs.Below.{lies_between}
use Rattle.converge_laws.proofs.Exact.{hood_types, head_of, hood_top, last_stage, exact_int}
use Rattle.converge_laws.proofs.Existing.{some_value, some_fits, solves_vars}
use Rattle.converge_laws.proofs.Guarded.{other_binder}
use Rattle.converge_laws.proofs.NextStage.{OneOf, next_hood, next_low}
use Rattle.converge_laws.proofs.One.{one_solution, beside_bound}
use Rattle.converge_laws.proofs.Step.{self_eq}
use Rattle.converge_laws.proofs.Agreement.{field_same, bind_agree}

-- what one turn gives: a solution of the body, in its ranges
pub record Turn (rs : ℕ → RangeValue) (N : Network) (e : Evolution) (x p : ℕ) (b : Term) (s : LocalType) (D : Devices) (V : ValueMaps) (f : ℕ → LocalValue) : Type 0 where
  pub value : ℕ → LocalValue
  pub fits : (d : ℕ) → Fits N.declared.ceiling s (value d)
  pub solves : Solves N p b D (bind x (evolved e N D f) V) (local_map value)
  pub ranged : InRanges rs N p b D (bind x (evolved e N D f) V) (local_map value) solves

module _ (A : Analysis) (N : Network) (net : IsNetwork N) (for : IsFor A N) (e : Evolution) (x p : ℕ) (b : Term) (s ty : LocalType) (D : Devices) (V : ValueMaps)
    (turn : (f : ℕ → LocalValue) → ((d : ℕ) → Fits N.declared.ceiling s (f d)) → Turn A.ranges N e x p b s D V f) (typed : term_type b ≡ TypeLocal s) (fr : TermInFragment A N.declared.ceiling p b) where
  abbrev M : ℕ
  M = N.declared.ceiling

  pub turns : ℕ → (f : ℕ → LocalValue) × ((d : ℕ) → Fits M s (f d))
  turns zero = ((λ d. some_value N net s), (λ d. some_fits N net s))
  turns (suc i) = let k = turn (turns i).0 (turns i).1 in (k.value, k.fits)

  abbrev pub val : ℕ → ℕ → LocalValue
  val i = (turns i).0

  abbrev pub maps : ℕ → ValueMaps
  maps i = bind x (evolved e N D (val i)) V

  pub val_fits : (i d : ℕ) → Fits M s (val i d)
  val_fits i d = (turns i).1 d

  pub solves : (i : ℕ) → Solves N p b D (maps i) (local_map (val (suc i)))
  unfolding turns
  solves i = (turn (turns i).0 (turns i).1).solves

  pub ranged : (i : ℕ) → InRanges A.ranges N p b D (maps i) (local_map (val (suc i))) (solves i)
  unfolding turns solves
  ranged i = (turn (turns i).0 (turns i).1).ranged

  bound_is : (i n : ℕ) → maps i x n ≡ evolved e N D (val i) n
  bound_is i n = let z = self_eq x in rw z refl

  agree : (i j : ℕ) (q : ℕ) → occurs q b ≡ true → q ≢ x → (n : ℕ) → In D n → maps i q n ≡ maps j q n
  agree i j q o ne n m = beside_bound x q (evolved e N D (val i)) (evolved e N D (val j)) V V n ne refl

  evolved_same : (f : Evolution) (g h : ℕ → LocalValue) → ((n : ℕ) → In D n → g n ≡ h n) → (d : ℕ) → In D d → evolved f N D g d ≡ evolved f N D h d
  evolved_same ByRep g h k d i = ap ValueLocal (k d i)
  evolved_same ByShare g h k d i = field_same N D g h k d i

  -- a turn that changes nothing solves the body
  pub fixed : (i : ℕ) → ((d : ℕ) → In D d → val i d ≡ val (suc i) d) → Solves N p b D (maps (suc i)) (local_map (val (suc i)))
  fixed i k = solves_vars N net b p D (maps i) (maps (suc i)) (local_map (val (suc i)))
      (bind_agree N D x b (evolved e N D (val i)) (evolved e N D (val (suc i))) V V (evolved_same e (val i) (val (suc i)) k) (λ q o d j. refl)) (solves i)

  one : (y : Term) → size y ≤ size b → OneOf A N net y
  one y l = one_solution A N net for y

  -- the acyclic pattern
  module _ (q : ℕ) (shallow : Shallow e x ty b) (guarded : Guarded e x q b) (occ : occurs x b ≡ true) where
    same_map : (i n : ℕ) → maps i q n ≡ V q n
    same_map i n = let k : nat_eq x q ≡ false = turned (other_binder e x q b guarded occ) in rw k refl
      where
        turned : nat_eq q x ≡ false → nat_eq x q ≡ false
        turned k = grind (arith, k, nat_tests)

    stage_low : (i n : ℕ) → In D n → integer_of (V q n) < i → val i n ≡ val (suc i) n
    stage_low zero n m l = absurd (omega (arith, l))
    stage_low (suc i) n m l =
        next_low A N net e x ty D (maps i) (maps (suc i)) (val i) (val (suc i)) (val (suc i)) (val (suc (suc i))) (bound_is i) (bound_is (suc i)) p q b shallow guarded fr (agree i (suc i)) one (solves i) (solves (suc i)) (ranged (suc i)) i
        (λ k j l'. stage_low i k j (let z = ap integer_of (same_map (suc i) k) in omega (arith, z, l'))) n m (let z = ap integer_of (same_map (suc i) n) in omega (arith, z, l))

    pub last_low : ℕ
    last_low = suc (greatest_integer (A.bounds q))

    pub acyclic_fixed : (d : ℕ) → In D d → val last_low d ≡ val (suc last_low) d
    unfolding last_low
    acyclic_fixed d i =
        let between = lies_between N net D (maps last_low) q A e x b guarded occ p (local_map (val (suc last_low))) (solves last_low) (ranged last_low) fr d i in
        let z = ap integer_of (same_map last_low d) in
        let k = between.1 in
        stage_low last_low d i (omega (arith, z, k))

-- the least of a neighbourhood
module _ (A : Analysis) (N : Network) (net : IsNetwork N) (for : IsFor A N) (e : Evolution) (x p : ℕ) (t : ValueType) (h l : Term) (s ty : LocalType) (D : Devices) (V : ValueMaps)
    (turn : (f : ℕ → LocalValue) → ((d : ℕ) → Fits N.declared.ceiling s (f d)) → Turn A.ranges N e x p (Apply t op.MinHoodLoc (More h (More l NoMore))) s D V f) (typed : t ≡ TypeLocal s)
    (fr : TermInFragment A N.declared.ceiling p (Apply t op.MinHoodLoc (More h (More l NoMore)))) (c : ℕ) (shallow : Shallow e x ty (Apply t op.MinHoodLoc (More h (More l NoMore)))) (apart : occurs x l ≡ false)
    (gr : growth_of N.declared.ceiling A.ranges e x (suc p) h ≡ Grows c) (pos : 1 ≤ c) where
  abbrev b : Term
  b = Apply t op.MinHoodLoc (More h (More l NoMore))

  abbrev v : ℕ → ℕ → LocalValue
  v i = val A N net for e x p b s ty D V turn typed fr i

  abbrev W : ℕ → ValueMaps
  W i = maps A N net for e x p b s ty D V turn typed fr i

  stage_close : (i n : ℕ) → In D n → Close (min N.declared.ceiling (i * c)) (v i n) (v (suc i) n)
  stage_close zero n m = inr (omega arith, omega arith)
  stage_close (suc i) n m =
      next_hood A N net e x ty D (W i) (W (suc i)) (v i) (v (suc i)) (v (suc i)) (v (suc (suc i))) (bound_is A N net for e x p b s ty D V turn typed fr i) (bound_is A N net for e x p b s ty D V turn typed fr (suc i))
      p t h l c (local_map (v (suc i))) (local_map (v (suc (suc i)))) shallow apart gr fr (agree A N net for e x p b s ty D V turn typed fr i (suc i)) (one A N net for e x p b s ty D V turn typed fr)
      (solves A N net for e x p b s ty D V turn typed fr i) (solves A N net for e x p b s ty D V turn typed fr (suc i)) (ranged A N net for e x p b s ty D V turn typed fr (suc i)) (λ k z. refl) (λ k z. refl) i (λ k z. stage_close i k z) n m

  pub last_hood : ℕ
  last_hood = suc (greatest_integer (A.ranges (suc p + size h)) / c)

  own_fits : (i d : ℕ) → FitsOver N.declared.ceiling (around N D d) t (ValueLocal (v i d))
  own_fits i d = subst (λ y. FitsOver N.declared.ceiling (around N D d) y (ValueLocal (v i d))) (sym typed) (val_fits A N net for e x p b s ty D V turn typed fr i d)

  pub hood_fixed : occurs x b ≡ true → (is_pair_range (A.ranges (suc p + size h)) ≡ true → greatest_integer (A.ranges (suc p + size h)) ≡ N.declared.ceiling → ⊥) → (d : ℕ) → In D d → v last_hood d ≡ v (suc last_hood) d
  unfolding last_hood
  hood_fixed occ pair d i =
      last_stage N net A.ranges D (W last_hood) e x p c t h l ty (local_map (v (suc last_hood))) shallow occ apart gr pos (for.ends (suc p + size h)) pair (solves A N net for e x p b s ty D V turn typed fr last_hood)
      (ranged A N net for e x p b s ty D V turn typed fr last_hood) d i (v last_hood d) (v (suc last_hood) d) (own_fits last_hood d) refl (stage_close last_hood d i)

  -- where the values are integers, whether or not the variable occurs
  pub hood_fixed_int : ((i d : ℕ) → v i d ≡ IntValue (lead (v i d))) → (d : ℕ) → In D d → v last_hood d ≡ v (suc last_hood) d
  unfolding last_hood
  hood_fixed_int int d i =
      let types = hood_types (term_type h ∷ term_type l ∷ []) t shallow.0 in
      let two = head_of (term_type h) (term_type l) (TypeField types.of) (TypeLocal types.of) [] [] types.arguments in
      let top = hood_top N net A.ranges D (W last_hood) p t h l types.of (local_map (v (suc last_hood))) two.0 two.1 (solves A N net for e x p b s ty D V turn typed fr last_hood) (ranged A N net for e x p b s ty D V turn typed fr last_hood) d i (v (suc last_hood) d) refl in
      exact_int N.declared.ceiling c (A.ranges (suc p + size h)) types.of top.own (v last_hood d) (v (suc last_hood) d) (int (suc last_hood) d) (int last_hood d) top.fits top.lies
      (subst (λ y. FitsOver N.declared.ceiling (around N D d) y (ValueLocal (v last_hood d))) types.value (own_fits last_hood d)) (subst (λ y. FitsOver N.declared.ceiling (around N D d) y (ValueLocal (v (suc last_hood) d))) types.value (own_fits (suc last_hood) d))
      top.most (for.ends (suc p + size h)) pos (stage_close last_hood d i)
