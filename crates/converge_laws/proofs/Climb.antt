-- The minimising pattern: a firing raises the stage by one.
use Rattle.std.proofs.Common.{◌≡◌, ℕ, zero, suc, ◌≤◌, ◌+◌, ◌*◌, ◌/◌, refl, sym, ap, subst, arith, inl, inr, false, Option, Some, min}
use Rattle.fc_values.specs.Types.{LocalType, ValueType}
use Rattle.fc_values.specs.BuiltinTypes.{inner}
use Rattle.fc_values.specs.Values.{LocalValue, Fits}
use Rattle.fc_values.specs.Fields.{AnyValue, ValueLocal, FitsOver}
use Rattle.fc_values.specs.Trees.{Tree}
use Rattle.fc_nodes.specs.Terms.{Evolution, ByRep, Term, Evolve, term_type, size}
use Rattle.alignment.specs.Environments.{Env}
use Rattle.alignment.specs.Scopes.{Vars}
use Rattle.topology.specs.Networks.{Network, IsNetwork}
use Rattle.interval_facts.specs.Solutions.{Devices, ValueMap, ValueMaps, bind, around, local_map, evolved, Solves}
use Rattle.fc_nodes.specs.Variables.{occurs}
use Rattle.fragment_check.specs.Levels.{Lvs, level_of}
use Rattle.converge_laws.specs.Fragment.{Analysis}
use Rattle.converge_laws.specs.Stages.{ClimbsBy, lag_of, Stage, StageBy, KeptAt, HeardAt}
use Rattle.growth_facts.specs.Leads.{Close}
use Rattle.converge_laws.specs.Invariant.{stage_of, Holds}
use Rattle.interval_facts.specs.Claims.{InRanges}
use Rattle.converge_laws.proofs.Given.{Given, StepOf}
use Rattle.converge_laws.proofs.Evolve.{Evolves, BodyRaised}
use Rattle.growth_facts.specs.Beside.{FieldPair, Beside, Shallow}
use Rattle.fragment_check.specs.declared.kinds.Pattern.{Pattern}
use Rattle.fragment_check.specs.declared.kinds.Pattern.TheVariants as pattern
use Rattle.converge_laws.proofs.Body.{seen_body}
use Rattle.converge_laws.proofs.Ranged.{lies_of}
use Rattle.converge_laws.proofs.Around.{solution_fits}
use Rattle.growth_facts.specs.Beside.{IsPart}
use Rattle.rise.specs.Stages.{climbed}

pub close_less : (k b : ℕ) (v w : LocalValue) → k ≤ b → Close b v w → Close k v w
close_less k b v w l (inl e) = inl e
close_less k b v w l (inr h) = inr (omega (arith, l, h.0), omega (arith, l, h.1))

-- the stages of a pattern that is known
climbs_at : (m : ℕ) (pt : Pattern) (c top base lag : ℕ) (rank : ℕ → ℕ) (j n : ℕ) (o : Option LocalValue) (w : LocalValue) → pt ≡ pattern.Minimising top c → StageBy m pt base lag rank j n o w
    → ClimbsBy m c c 1 base lag j o w
climbs_at m pt c top base lag rank j n o w e h = subst (λ x. StageBy m x base lag rank j n o w) e h

as_climbs : (m : ℕ) (pt : Pattern) (c top base lag : ℕ) (rank : ℕ → ℕ) (j n : ℕ) (o : Option LocalValue) (w : LocalValue) → pt ≡ pattern.Minimising top c
    → ClimbsBy m c c 1 base lag j o w → StageBy m pt base lag rank j n o w
as_climbs m pt c top base lag rank j n o w e h = subst (λ x. StageBy m x base lag rank j n o w) (sym e) h

module _ (A : Analysis) (N : Network) (d j : ℕ) (t : ValueType) (e : Evolution) (a u : Term) (p b : ℕ) (st : Stage) (lv : Lvs) (D : Devices) (V : ValueMaps) (F : ValueMap) (s : Solves N p (Evolve t e a u) D V F) (vars : Vars) (env : Env) (v : AnyValue) (tree : Tree) (cl : occurs st.var (Evolve t e a u) ≡ false) (g : Given A N d j p b st lv (Evolve t e a u) D V F s vars env) (r : Evolves N d p e a u vars env v tree)
    (net : IsNetwork N) (c top : ℕ) (is : A.pattern p ≡ pattern.Minimising top c) (shallow : Shallow e p (inner t) u) (deep : suc b ≤ level_of A.stages (suc p + size a) b p lv u)
    (steps : (h : Term) → size h ≤ size u → StepOf A N d j h) where
  abbrev at : ℕ
  at = suc p + size a

  abbrev m : ℕ
  m = N.declared.ceiling

  abbrev ty : LocalType
  ty = inner t

  abbrev y : Stage
  y = stage_of A N p b lv e a u D V

  abbrev W : ValueMaps
  W = bind p (evolved e N D s.1) V

  abbrev Part : ℕ → Term → AnyValue → Type 0
  Part = IsPart m (around N D d) A.ranges

  -- the growth of the body
  abbrev pub Grows : Type 0
  Grows = (k : ℕ) (x w : LocalValue) → Beside m d (around N D d) e p (FieldPair (λ n y z. Close k y z × (z ≡ s.1 n))) Part at u (ValueLocal x) (ValueLocal w) → Close (min m (k + c)) x w × FitsOver m (around N D d) (term_type u) (ValueLocal x)

  parts : (q : ℕ) (h : Term) (G : ValueMap) (z : Solves N q h D W G) → InRanges A.ranges N q h D W G z → Part q h (G d)
  parts q h G z rr = (solution_fits N net h q D W G z d g.inside, lies_of A.ranges N q h D W G z rr d g.inside)

  seen_by : (P : ℕ → LocalValue → LocalValue → Type 0) → ((n : ℕ) (x : LocalValue) → Fits m ty x → KeptAt m y j n (Some x) (s.1 n) → P n x (s.1 n)) → (e ≡ ByRep → (n : ℕ) (x : LocalValue) → Fits m ty x → HeardAt m y j n (Some x) (s.1 n) → P n x (s.1 n))
      → (y.base ≤ suc j → Beside m d (around N D d) e p (FieldPair P) Part at u (ValueLocal r.result) (ValueLocal (s.1 d))) × Holds A N (suc j) at b y lv u D W (local_map s.1) s.2 d r.body
  seen_by P k h = seen_body A N d j t e a u p b st lv D V F s vars env v tree cl g r net deep P Part parts k h shallow steps

  -- stage i of what is kept or heard
  stage_close : (base i n : ℕ) (x : LocalValue) → ((k : ℕ) → i ≡ suc k → base + k * (1 + y.lag) + 0 ≤ j) → StageBy m y.pattern base y.lag y.rank j n (Some x) (s.1 n) → Close (min m (i * c)) x (s.1 n)
  stage_close base zero n x l h = inr (omega arith, omega arith)
  stage_close base (suc i) n x l h =
      let z = climbs_at m y.pattern c top base y.lag y.rank j n (Some x) (s.1 n) is h i 0 (omega arith) (l i refl) in
      close_less (min m (suc i * c)) (climbed m c c i (suc 0)) x (s.1 n) (omega arith) z

  body_close : Grows → (i : ℕ) → y.base + i * (1 + y.lag) + 0 ≤ suc j → Close (min m (suc i * c)) r.result (s.1 d)
  body_close grows i l =
      let z = seen_by (λ n y z. Close (min m (i * c)) y z × (z ≡ s.1 n))
      (λ n x z h. (stage_close y.base i n x (λ k q. omega (arith, l, q, ap (λ z. z * (1 + y.lag)) q)) h, refl))
      (λ q n x z h. (stage_close (suc y.base) i n x (λ k q'. let lag : y.lag ≡ 1 = ap lag_of q in rw lag (by_lag k q' lag)) h, refl)) in
      close_less (min m (suc i * c)) (min m (min m (i * c) + c)) r.result (s.1 d) (omega arith) (grows (min m (i * c)) r.result (s.1 d) (z.0 (omega (arith, l)))).0
    where
      by_lag : (k : ℕ) → i ≡ suc k → y.lag ≡ 1 → suc y.base + k * (1 + 1) + 0 ≤ j
      by_lag k q lag =
          let l' : y.base + i * (1 + 1) + 0 ≤ suc j = subst (λ z. y.base + i * (1 + z) + 0 ≤ suc j) lag l in
          omega (arith, l', q)

  body_fits : Grows → y.base ≤ suc j → FitsOver m (around N D d) (term_type u) (ValueLocal r.result)
  body_fits grows l =
      let z = seen_by (λ n y z. Close 0 y z × (z ≡ s.1 n)) (λ n x z h. (inr (omega arith, omega arith), refl)) (λ q n x z h. (inr (omega arith, omega arith), refl)) in
      (grows 0 r.result (s.1 d) (z.0 l)).1

  -- as many stages as there are reach the solution
  pub climb_raised : Grows → A.stages p ≡ (top / c) * (1 + y.lag) → ((x : LocalValue) → x ≡ r.result → FitsOver m (around N D d) (term_type u) (ValueLocal x) → Close (min m (suc (top / c) * c)) x (s.1 d) → x ≡ s.1 d)
      → BodyRaised A N d j t e a u p b st lv D V F s vars env v tree cl g r
  climb_raised grows stages exact = record {
    value = λ l. exact r.result refl (body_fits grows (omega (arith, l, stages))) (body_close grows (top / c) (omega (arith, l, stages)));
    stages = as_climbs m y.pattern c top y.base y.lag y.rank (suc j) d (Some r.result) (s.1 d) is (λ i q h l. let q' : q ≡ 0 = omega (arith, h) in
        close_less (climbed m c c i (suc q)) (min m (suc i * c)) r.result (s.1 d) (omega (arith, q')) (body_close grows i (omega (arith, l, q'))));
    holds = (seen_by (λ n x w. Unit {0}) (λ n x z h. tt) (λ q n x z h. tt)).1;
  }
