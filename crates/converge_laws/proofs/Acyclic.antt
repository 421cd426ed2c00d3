-- The acyclic pattern: a firing of a device whose lower devices have the values of the solution has its own.
use Rattle.std.proofs.Common.{◌≡◌, ℕ, zero, suc, ◌≤◌, ◌<◌, ◌+◌, ◌*◌, List, refl, sym, ◌∙◌, ap, subst, arith, ◌⊎◌, inl, inr, Bool, true, false, Option, Some, nat_eq}
use Rattle.std.proofs.lemmas.Bool.Decides.{nat_tests}
use Rattle.fc_values.specs.Types.{LocalType, ValueType}
use Rattle.fc_values.specs.BuiltinTypes.{inner}
use Rattle.fc_values.specs.Values.{LocalValue}
use Rattle.fc_values.specs.Fields.{AnyValue}
use Rattle.fc_values.specs.Trees.{Tree}
use Rattle.fc_nodes.specs.Terms.{Evolution, ByRep, ByShare, Term, Evolve, size}
use Rattle.alignment.specs.Environments.{Env}
use Rattle.alignment.specs.Scopes.{Vars}
use Rattle.topology.specs.Networks.{Network, IsNetwork}
use Rattle.interval_facts.specs.Solutions.{Devices, In, ValueMap, ValueMaps, bind, around, local_map, evolved, Solves}
use Rattle.fc_nodes.specs.Variables.{occurs}
use Rattle.fragment_check.specs.Levels.{Lvs, level_of}
use Rattle.converge_laws.specs.Fragment.{Analysis}
use Rattle.converge_laws.specs.Stages.{lag_of, Stage, StageBy}
use Rattle.converge_laws.specs.Invariant.{stage_of}
use Rattle.interval_facts.specs.Claims.{InRanges}
use Rattle.converge_laws.proofs.Given.{Given, StepOf}
use Rattle.converge_laws.proofs.Evolve.{Evolves, BodyRaised}
use Rattle.growth_facts.specs.Beside.{Shallow}
use Rattle.converge_laws.proofs.Around.{heard_in}
use Rattle.fragment_check.specs.declared.kinds.Pattern.{Pattern}
use Rattle.fragment_check.specs.declared.kinds.Pattern.TheVariants as pattern
use Rattle.converge_laws.proofs.Body.{seen_body}
use Rattle.converge_laws.proofs.Ranged.{lies_of}
use Rattle.converge_laws.proofs.Around.{solution_fits}
use Rattle.std.proofs.Common.{◌&&◌, nat_lt, get_or, length}
use Rattle.fc_values.specs.Values.{BoolValue}
use Rattle.topology.specs.Networks.{lives, Lives}
use Rattle.growth_facts.specs.Leads.{least_integer, greatest_integer}
use Rattle.fragment_check.specs.Shapes.{Guarded}
use Rattle.fragment_check.specs.Verdicts.{ranks, stage_rounds}
use Rattle.fc_values.specs.Positions.{argument_nth}
use Rattle.converge_laws.specs.Ranks.{rank_of}
use Rattle.converge_laws.specs.Stages.{RanksBy, rank_by, integer_of}
use Rattle.converge_laws.proofs.LowRanks.{ranks_are_low}
use Rattle.converge_laws.proofs.Guarded.{IsPartBelow, SameBelow, guarded_equal, other_binder}
use Rattle.converge_laws.proofs.Below.{compared_is, lies_between}
use Rattle.converge_laws.proofs.Around.{around_up}
use Rattle.interval_facts.proofs.Claims.{some_around}
use Rattle.fc_values.proofs.Rising.{rises_test}

module _ (A : Analysis) (N : Network) (d j : ℕ) (t : ValueType) (e : Evolution) (a u : Term) (p b : ℕ) (st : Stage) (lv : Lvs) (D : Devices) (V : ValueMaps) (F : ValueMap) (s : Solves N p (Evolve t e a u) D V F) (vars : Vars) (env : Env) (v : AnyValue) (tree : Tree) (cl : occurs st.var (Evolve t e a u) ≡ false) (g : Given A N d j p b st lv (Evolve t e a u) D V F s vars env) (r : Evolves N d p e a u vars env v tree)
    (net : IsNetwork N) (deep : suc b ≤ level_of A.stages (suc p + size a) b p lv u) (q : ℕ) (is : A.pattern p ≡ pattern.Acyclic q) (occ : occurs p u ≡ true) (shallow : Shallow e p (inner t) u) (guarded : Guarded e p q u)
    (steps : (h : Term) → size h ≤ size u → StepOf A N d j h) where
  abbrev M : ℕ
  M = N.declared.ceiling

  abbrev ty : LocalType
  ty = inner t

  abbrev at : ℕ
  at = suc p + size a

  abbrev y : Stage
  y = stage_of A N p b lv e a u D V

  abbrev W : ValueMaps
  W = bind p (evolved e N D s.1) V

  abbrev ds : List ℕ
  ds = around N D d

  abbrev pot : ℕ → ℕ
  pot n = integer_of (V q n)

  -- the body leaves the potential as it is
  same_map : (n : ℕ) → W q n ≡ V q n
  same_map n = let k : nat_eq p q ≡ false = turned (other_binder e p q u guarded occ) in rw k refl
    where
      turned : nat_eq q p ≡ false → nat_eq p q ≡ false
      turned k = grind (arith, k, nat_tests)

  rank_is : y.rank ≡ rank_of N D pot
  rank_is = ap (λ (x : Pattern). rank_by x N D V) is

  -- the devices below
  abbrev low : ℕ → Bool
  low n = D n && (lives N n && nat_lt (pot n) (pot d))

  record IsLow (n : ℕ) : Type 0 where
    inside : In D n
    alive : Lives N n
    less : nat_lt (pot n) (pot d) ≡ true

  low_says : (n : ℕ) → low n ≡ true → IsLow n
  low_says n h = by_tests (D n) (lives N n) (nat_lt (pot n) (pot d)) refl refl refl h
    where
      by_tests : (x y z : Bool) → D n ≡ x → lives N n ≡ y → nat_lt (pot n) (pot d) ≡ z → (x && (y && z)) ≡ true → IsLow n
      by_tests true true true i l k h = record { inside = i; alive = l; less = k }
      by_tests false y z i l k h = absurd cc
      by_tests true false z i l k h = absurd cc
      by_tests true true false i l k h = absurd cc

  low_is : (n : ℕ) → (n ≡ d) ⊎ (In D n × Lives N n) → low n ≡ nat_lt (pot n) (pot d)
  low_is n (inr k) = let i = k.0 in let l = k.1 in rw (i, l) refl
  low_is n (inl k) = subst (λ z. low z ≡ nat_lt (pot z) (pot d)) (sym k) itself
    where
      by_tests : (x y : Bool) → (x && (y && false)) ≡ false
      by_tests true true = refl
      by_tests true false = refl
      by_tests false y = refl

      itself : low d ≡ nat_lt (pot d) (pot d)
      itself = let z : nat_lt (pot d) (pot d) ≡ false = grind (arith, nat_tests) in rw z (by_tests (D d) (lives N d))

  abbrev Part : ℕ → Term → AnyValue → Type 0
  Part = IsPartBelow M ds A.ranges q low

  parts : (k : ℕ) (h : Term) (G : ValueMap) (z : Solves N k h D W G) → InRanges A.ranges N k h D W G z → Part k h (G d)
  parts k h G z rr = (
    (solution_fits N net h k D W G z d g.inside, lies_of A.ranges N k h D W G z rr d g.inside),
    λ u' v' same i l.
        let c = compared_is N net D W q k u' v' G (subst (λ x. Solves N k x D W G) same z) d g.inside i l in
        let n = get_or ds i 0 in
        let first : integer_of (W q n) ≡ pot n = ap integer_of (same_map n) in
        let own : integer_of (W q d) ≡ pot d = ap integer_of (same_map d) in
        let c' : argument_nth i (G d) ≡ BoolValue (nat_lt (pot n) (pot d)) = c.0 ∙ ap (λ (x : ℕ). BoolValue (nat_lt x (integer_of (W q d)))) first ∙ ap (λ (x : ℕ). BoolValue (nat_lt (pot n) x)) own in
        c' ∙ ap BoolValue (sym (low_is n c.1)),
  )

  -- stages of ranks
  ranks_at : (base i n : ℕ) (o : Option LocalValue) (w : LocalValue) → StageBy M y.pattern base y.lag y.rank i n o w → RanksBy y.rank base y.lag i n o w
  ranks_at base i n o w h = subst (λ x. StageBy M x base y.lag y.rank i n o w) is h

  lower_rank : (n : ℕ) → low n ≡ true → y.rank n < y.rank d
  lower_rank n h =
      let k = low_says n h in
      let less : pot n < pot d = let z = k.less in grind (arith, z, nat_tests) in
      let low' = (ranks_are_low N D pot d g.inside g.alive).lower n k.inside k.alive less in
      subst (λ (f : ℕ → ℕ). f n < f d) (sym rank_is) low'

  stage : (i : ℕ) → y.base + i * suc y.lag ≤ suc j → y.rank d ≤ i → r.result ≡ s.1 d
  stage i l k =
      let z = seen_body A N d j t e a u p b st lv D V F s vars env v tree cl g r net deep (SameBelow M d ds e p q A.ranges low (rises_test ds (around_up N net D d)) (some_around d (heard_in N D d))) Part parts
      (λ n x f h w. kept n x (ranks_at y.base j n (Some x) (s.1 n) h) i l k (lower_rank n w))
      (λ o n x f h w. heard_there n x o (ranks_at (suc y.base) j n (Some x) (s.1 n) h) i l k (lower_rank n w)) shallow steps in
      let same = guarded_equal M d ds e p q A.ranges low (rises_test ds (around_up N net D d)) (some_around d (heard_in N D d)) (z.0 (omega (arith, l))) guarded in
      cc
    where
      kept : (n : ℕ) (x : LocalValue) → RanksBy y.rank y.base y.lag j n (Some x) (s.1 n) → (i : ℕ) → y.base + i * suc y.lag ≤ suc j → y.rank d ≤ i → y.rank n < y.rank d → x ≡ s.1 n
      kept n x h zero l k w = absurd (omega (arith, k, w))
      kept n x h (suc i) l k w = let q' = h i (omega (arith, l)) (omega (arith, k, w)) in cc

      heard_there : (n : ℕ) (x : LocalValue) → e ≡ ByRep → RanksBy y.rank (suc y.base) y.lag j n (Some x) (s.1 n) → (i : ℕ) → y.base + i * suc y.lag ≤ suc j → y.rank d ≤ i → y.rank n < y.rank d → x ≡ s.1 n
      heard_there n x o h zero l k w = absurd (omega (arith, k, w))
      heard_there n x o h (suc i) l k w =
          let lag : y.lag ≡ 1 = ap lag_of o in
          let l' : y.base + suc i * 2 ≤ suc j = subst (λ z. y.base + suc i * suc z ≤ suc j) lag l in
          let m : suc y.base + i * suc y.lag ≤ j = subst (λ z. suc y.base + i * suc z ≤ j) (sym lag) (omega (arith, l')) in
          let q' = h i m (omega (arith, k, w)) in cc

  rounds_are : (f : Evolution) (k : ℕ) → stage_rounds f * k ≡ k * suc (lag_of f)
  rounds_are ByRep k = omega arith
  rounds_are ByShare k = omega arith

  few_ranks : A.devices ≡ length N.devices → y.rank d ≤ ranks A.devices (A.bounds q)
  few_ranks count =
      let low' = ranks_are_low N D pot d g.inside g.alive in
      let between = lies_between N net D W q A e p u guarded occ at (local_map s.1) s.2 g.ranges.1 g.frag.2 in
      let narrow = low'.narrow (least_integer (A.bounds q)) (greatest_integer (A.bounds q)) (λ n i l. subst (λ (x : ℕ). (least_integer (A.bounds q) ≤ x) × (x ≤ greatest_integer (A.bounds q))) (ap integer_of (same_map n)) (between n i)) in
      let few = low'.few in
      subst (λ (f : ℕ → ℕ). f d ≤ ranks A.devices (A.bounds q)) (sym rank_is) (omega (arith, narrow, few, count))

  -- as many stages as there are ranks reach the solution
  pub acyclic_raised : A.devices ≡ length N.devices → A.stages p ≡ stage_rounds e * ranks A.devices (A.bounds q) → BodyRaised A N d j t e a u p b st lv D V F s vars env v tree cl g r
  acyclic_raised count stages = record {
    value = λ l.
        let k = stages ∙ rounds_are e (ranks A.devices (A.bounds q)) in
        stage (ranks A.devices (A.bounds q)) (omega (arith, l, k)) (few_ranks count);
    stages = subst (λ x. StageBy M x y.base y.lag y.rank (suc j) d (Some r.result) (s.1 d)) (sym is) (λ i l k. ap Some (stage i l k));
    holds = (seen_body A N d j t e a u p b st lv D V F s vars env v tree cl g r net deep (λ n x w. Unit {0}) Part parts (λ n x z h. tt) (λ o n x z h. tt) shallow steps).1;
  }
