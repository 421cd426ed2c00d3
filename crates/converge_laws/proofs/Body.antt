-- A firing at the body of a `rep` or `share`: what it has of the variable, and its value beside that of the solution.
use Rattle.std.proofs.Common.{◌≡◌, ℕ, suc, ◌≤◌, ◌<◌, ◌+◌, ◌∷◌, map, refl, ◌∙◌, ap, subst, arith, ◌⊎◌, inl, inr, Bool, true, false, Option, Some, None, nat_le}
use Rattle.std.proofs.lemmas.Bool.Decides.{nat_tests}
use Rattle.fc_values.specs.Types.{LocalType, ValueType, TypeField}
use Rattle.fc_values.specs.BuiltinTypes.{inner}
use Rattle.fc_values.specs.Values.{LocalValue, Fits}
use Rattle.fc_values.specs.Fields.{AnyValue, ValueLocal, ValueField, FitsOver, with_entry, with_number}
use Rattle.fc_values.specs.Trees.{Tree, kept_of}
use Rattle.fc_nodes.specs.Terms.{Evolution, ByRep, ByShare, Term, Evolve, size}
use Rattle.alignment.specs.Environments.{Env, child_env}
use Rattle.alignment.specs.Scopes.{Vars}
use Rattle.device_eval.specs.Evaluation.{own_or}
use Rattle.topology.specs.Networks.{Network, near, IsNetwork}
use Rattle.interval_facts.specs.Solutions.{Devices, ValueMap, ValueMaps, bind, near_among, around, local_map, evolved, Solves}
use Rattle.fc_nodes.specs.Variables.{occurs}
use Rattle.fragment_check.specs.Levels.{Lvs, level_of}
use Rattle.converge_laws.specs.Fragment.{Analysis}
use Rattle.converge_laws.specs.Stages.{Stage, KeptAt, HeardAt}
use Rattle.converge_laws.specs.Invariant.{stage_of, Holds}
use Rattle.interval_facts.specs.Claims.{InRanges}
use Rattle.converge_laws.proofs.Near.{OwnIs, near_as, all_set}
use Rattle.converge_laws.proofs.Given.{Here, Given, StepOf}
use Rattle.converge_laws.proofs.Step.{self_eq}
use Rattle.converge_laws.proofs.Evolve.{Starts, Evolves, body_given}
use Rattle.growth_facts.specs.Beside.{FieldPair, Beside, Shallow}
use Rattle.growth_facts.proofs.FieldPairs.{pairs_with}
use Rattle.converge_laws.proofs.Seen.{kept_over, keeps_fit, kept_pairs, Hears, seen}
use Rattle.converge_laws.proofs.Around.{heard_in, near_up, near_apart}
use Rattle.alignment.proofs.Entries.{devices_with}
use Rattle.device_eval.proofs.Sights.{fit_with, bound_fits}
use Rattle.converge_laws.proofs.Down.{stage_none, stage_later}

module _ (A : Analysis) (N : Network) (d j : ℕ) (t : ValueType) (e : Evolution) (a u : Term) (p b : ℕ) (st : Stage) (lv : Lvs) (D : Devices) (V : ValueMaps) (F : ValueMap) (s : Solves N p (Evolve t e a u) D V F) (vars : Vars) (env : Env) (v : AnyValue) (tree : Tree) (cl : occurs st.var (Evolve t e a u) ≡ false) (g : Given A N d j p b st lv (Evolve t e a u) D V F s vars env) (r : Evolves N d p e a u vars env v tree)
    (net : IsNetwork N) (deep : suc b ≤ level_of A.stages (suc p + size a) b p lv u) where
  abbrev m : ℕ
  m = N.declared.ceiling

  abbrev ty : LocalType
  ty = inner t

  abbrev at : ℕ
  at = suc p + size a

  abbrev y : Stage
  y = stage_of A N p b lv e a u D V

  abbrev W : ValueMaps
  W = bind p (evolved e N D s.1) V

  or_not : (b ≤ j) ⊎ (j < b)
  or_not = by_test (nat_le b j) refl
    where
      by_test : (k : Bool) → nat_le b j ≡ k → (b ≤ j) ⊎ (j < b)
      by_test true q = inl (grind (arith, q, nat_tests))
      by_test false q = inr (grind (arith, q, nat_tests))

  -- the own last result
  pub own_kept : (first x : LocalValue) → own_or env.own first ≡ Some x → KeptAt m y j d (Some x) (s.1 d)
  own_kept first x o = by_case or_not
    where
      from : (own : Option Tree) → own_or own first ≡ Some x → OwnIs (λ T. Here A N j p b st lv (Evolve t e a u) D V F s d T) own → KeptAt m y j d (Some x) (s.1 d)
      from None o h = absurd h
      from (Some T) o h = subst (λ k. KeptAt m y j d k (s.1 d)) o h.1.1

      by_case : (b ≤ j) ⊎ (j < b) → KeptAt m y j d (Some x) (s.1 d)
      by_case (inl l) = from env.own o (g.own l)
      by_case (inr l) = stage_none m y.pattern y.base y.lag y.rank j d (Some x) (s.1 d) (omega (arith, l, deep))

  pub own_fits : (first x : LocalValue) → own_or env.own first ≡ Some x → b ≤ j → Fits m ty x
  own_fits first x o l = from env.own o (g.own l)
    where
      from : (own : Option Tree) → own_or own first ≡ Some x → OwnIs (λ T. Here A N j p b st lv (Evolve t e a u) D V F s d T) own → Fits m ty x
      from None o h = absurd h
      from (Some T) o h = keeps_fit m ty _ T x h.0 o

  -- what is heard at a stage
  pub hears_by : (f : Evolution) → f ≡ e → (P : ℕ → LocalValue → LocalValue → Type 0) → Starts f d r.first env r.start
      → ((n : ℕ) (x : LocalValue) → Fits m ty x → KeptAt m y j n (Some x) (s.1 n) → P n x (s.1 n)) → (f ≡ ByRep → (n : ℕ) (x : LocalValue) → Fits m ty x → HeardAt m y j n (Some x) (s.1 n) → P n x (s.1 n))
      → Hears A N d j b y P D (bind p (evolved f N D s.1) V) s.1 ((p, r.start) ∷ vars) ty f
  hears_by ByRep q P st' k h =
      let own = own_kept r.first st'.0 st'.1 in
      let same = self_eq p in (
        st'.0,
        rw same (ap Some st'.2),
        (λ n. rw same refl),
        (λ l. let fx = own_fits r.first st'.0 st'.1 l in (k d st'.0 fx own, fx)),
        stage_later m y.pattern y.base y.lag y.rank j d (Some st'.0) (s.1 d) own,
        h refl,
      )
  hears_by ByShare q P st' k h =
      let same = self_eq p in
      let own = own_kept r.first st'.0 st'.2 in (
        r.start,
        rw same refl,
        (λ l.
            let fx = own_fits r.first st'.0 st'.2 l in
            let near_here = g.near l in
            let fit = near_as _ (λ n T. (x : LocalValue) → kept_of T ≡ Some x → Fits m ty x) (λ n T z x w. keeps_fit m ty _ T x z.0 w) (near_among N D d) env.near near_here in
            let over = kept_over m ty (near_among N D d) env.near st'.1 fit st'.3 in
            let there = kept_pairs P s.1 D (λ n o. KeptAt m y j n o (s.1 n) × ((x : LocalValue) → o ≡ Some x → Fits m ty x)) (λ n x i z. k n x (z.1 x refl) z.0) (near_among N D d) env.near st'.1 (all_set D (near N d)) (near_as _ _ (λ n T z. (z.1.1, λ x w. keeps_fit m ty _ T x z.0 w)) (near_among N D d) env.near near_here) st'.3 in
            let pairs = pairs_with P d st'.0 (s.1 d) st'.1 (map (λ (n : ℕ × ℕ). (n.0, s.1 n.0)) (near_among N D d)) (k d st'.0 fx own) there in
            let fits : FitsOver m (around N D d) (TypeField ty) (ValueField (with_entry d st'.0 st'.1)) = (devices_with d st'.0 st'.1 ∙ ap (with_number d) over.0, fit_with m ty d st'.0 st'.1 fx over.1) in
            let bound = bound_fits m d (heard_in N D d) (TypeField ty) (ValueField (with_entry d st'.0 st'.1)) (near_up N net D d) (near_apart N net D d) fits in
            (rw (same, st'.4) pairs, rw st'.4 bound)),
      )

  -- the body beside that of the solution
  pub seen_body : (P : ℕ → LocalValue → LocalValue → Type 0) (Part : ℕ → Term → AnyValue → Type 0) → ((q : ℕ) (h : Term) (G : ValueMap) (z : Solves N q h D W G) → InRanges A.ranges N q h D W G z → Part q h (G d))
      → ((n : ℕ) (x : LocalValue) → Fits m ty x → KeptAt m y j n (Some x) (s.1 n) → P n x (s.1 n)) → (e ≡ ByRep → (n : ℕ) (x : LocalValue) → Fits m ty x → HeardAt m y j n (Some x) (s.1 n) → P n x (s.1 n))
      → Shallow e p ty u → ((h : Term) → size h ≤ size u → StepOf A N d j h)
      → (y.base ≤ suc j → Beside m d (around N D d) e p (FieldPair P) Part at u (ValueLocal r.result) (ValueLocal (s.1 d))) × Holds A N (suc j) at b y lv u D W (local_map s.1) s.2 d r.body
  seen_body P Part parts k h shallow steps =
      let given = body_given A N d j t e a u p b st lv D V F s vars env v tree cl g r in
      let z = seen A N d j b y lv e P Part D W s.1 ((p, r.start) ∷ vars) ty net deep (hears_by e refl P r.starts k h) parts u steps at (local_map s.1) s.2 (child_env 1 env) (ValueLocal r.result) r.body shallow (omega arith) given r.evaluates in
      (z.beside, z.holds)
