-- A firing at a `rep` or `share`: what its body has to give, and the constant pattern.
use Rattle.std.proofs.Common.{◌≡◌, ◌≢◌, ℕ, suc, ◌≤◌, ◌+◌, List, ◌∷◌, refl, sym, ◌∙◌, ap, subst, arith, Bool, true, false, Option, Some, nat_eq}
use Rattle.std.proofs.lemmas.Bool.Decides.{nat_tests}
use Rattle.std.specs.Prelude.{if◌then◌else◌}
use Rattle.fc_values.specs.Types.{ValueType}
use Rattle.fc_values.specs.Values.{LocalValue, Fits}
use Rattle.fc_values.specs.BuiltinTypes.{inner}
use Rattle.fc_values.specs.Fields.{AnyValue, ValueLocal, ValueField, with_entry}
use Rattle.fc_values.specs.Trees.{Tree, Keep, Done, Then}
use Rattle.fc_nodes.specs.Terms.{Evolution, ByRep, ByShare, Term, Evolve, size}
use Rattle.fc_nodes.specs.Flat.{FitsTree}
use Rattle.device_eval.proofs.Progress.{two_second}
use Rattle.alignment.specs.Environments.{Env, child_env}
use Rattle.alignment.specs.Scopes.{Vars, variable_at}
use Rattle.device_eval.specs.Evaluation.{own_or}
use Rattle.device_eval.specs.Rules.{Evaluates, rep, share}
use Rattle.device_eval.specs.Neighbours.{kept_there}
use Rattle.topology.specs.Networks.{Network}
use Rattle.interval_facts.specs.Solutions.{Devices, ValueMap, ValueMaps, bind, near_among, local_map, evolved, Solves}
use Rattle.fc_nodes.specs.Variables.{occurs}
use Rattle.fragment_check.specs.Levels.{Lvs, level_of}
use Rattle.converge_laws.specs.Fragment.{Analysis}
use Rattle.converge_laws.specs.Stages.{Stage, StageBy, KeptAt}
use Rattle.converge_laws.specs.Invariant.{stage_of, Holds}
use Rattle.converge_laws.proofs.Near.{near_kid, own_kid}
use Rattle.converge_laws.proofs.Given.{situation_at, Given, Raised, StepOf}
use Rattle.converge_laws.proofs.Step.{or_right}
use Rattle.fragment_check.specs.declared.kinds.Pattern.{Pattern}
use Rattle.fragment_check.specs.declared.kinds.Pattern.TheVariants as pattern

other_var : (x q : ℕ) (t : Term) → occurs x t ≡ false → occurs q t ≡ true → q ≢ x
other_var x q t h o e = let o' : occurs x t ≡ true = subst (λ k. occurs k t ≡ true) e o in absurd cc

-- what the variable of a `rep` or `share` is in a firing: the own last result; and of a `share` also what the others keep
abbrev pub Starts : Evolution → ℕ → LocalValue → Env → AnyValue → Type 0
Starts ByRep d first env X = (x : LocalValue) × (own_or env.own first ≡ Some x) × (X ≡ ValueLocal x)
Starts ByShare d first env X = (x : LocalValue) × (es : List (ℕ × LocalValue)) × (own_or env.own first ≡ Some x) × (kept_there env.near ≡ Some es) × (X ≡ ValueField (with_entry d x es))

-- a firing at a `rep` or `share`, from its parts
pub record Evolves (N : Network) (d p : ℕ) (e : Evolution) (a u : Term) (vars : Vars) (env : Env) (v : AnyValue) (tree : Tree) : Type 0 where
  pub first : LocalValue
  pub start : AnyValue
  pub starts : Starts e d first env start
  pub result : LocalValue
  pub body : Tree
  pub evaluates : Evaluates (situation_at N d) (suc p + size a) u ((p, start) ∷ vars) (child_env 1 env) (ValueLocal result) body
  pub is : v ≡ ValueLocal result
  pub other : Tree
  pub keeps : tree ≡ Keep (Some result) (Then other (Then body Done))

pub evolves_of : (N : Network) (d p : ℕ) (t : ValueType) (e : Evolution) (a u : Term) (vars : Vars) (env : Env) (v : AnyValue) (tree : Tree) → Evaluates (situation_at N d) p (Evolve t e a u) vars env v tree → Evolves N d p e a u vars env v tree
evolves_of N d p t ByRep a u vars env v tree (rep t' a' u' first x v' ta tb ea o eb) =
    record { first = first; start = ValueLocal x; starts = (x, o, refl); result = v'; body = tb; evaluates = eb; is = refl; other = ta; keeps = refl }
evolves_of N d p t ByShare a u vars env v tree (share t' a' u' first x v' es ta tb ea o k eb) =
    record { first = first; start = ValueField (with_entry d x es); starts = (x, es, o, k, refl); result = v'; body = tb; evaluates = eb; is = refl; other = ta; keeps = refl }

module _ (A : Analysis) (N : Network) (d j : ℕ) (t : ValueType) (e : Evolution) (a u : Term) (p b : ℕ) (st : Stage) (lv : Lvs) (D : Devices) (V : ValueMaps) (F : ValueMap) (s : Solves N p (Evolve t e a u) D V F) (vars : Vars) (env : Env) (v : AnyValue) (tree : Tree) (cl : occurs st.var (Evolve t e a u) ≡ false) (g : Given A N d j p b st lv (Evolve t e a u) D V F s vars env) (r : Evolves N d p e a u vars env v tree) where
  abbrev M : ℕ
  M = N.declared.ceiling

  abbrev pub at : ℕ
  at = suc p + size a

  abbrev pub st' : Stage
  st' = stage_of A N p b lv e a u D V

  abbrev pub V' : ValueMaps
  V' = bind p (evolved e N D s.1) V

  pub body_given : Given A N d j at b st' lv u D V' (local_map s.1) s.2 ((p, r.start) ∷ vars) (child_env 1 env)
  body_given = record {
    frag = g.frag.2;
    ranges = g.ranges.1;
    inside = g.inside;
    alive = g.alive;
    low = g.low;
    own = λ l. own_kid _ _ 1 (λ T h. (two_second (FitsTree M a) (FitsTree M u) T (Fits M (inner t)) h.0, h.1.2)) env.own (g.own l);
    near = λ l. near_kid _ _ 1 (λ n T h. (two_second (FitsTree M a) (FitsTree M u) T (Fits M (inner t)) h.0, h.1.2)) (near_among N D d) env.near (g.near l);
    binders = λ q i ne w e' l. by_test q i ne w (nat_eq p q) refl e' l;
  }
    where
      by_test : (q : ℕ) → occurs q u ≡ true → q ≢ p → (w : AnyValue) → (c : Bool) → nat_eq p q ≡ c → (if c then Some r.start else variable_at q vars) ≡ Some w → lv q ≤ suc j → w ≡ (if c then evolved e N D s.1 else V q) d
      by_test q i ne w true k e' l = absurd (ne (grind (arith, k, nat_tests)))
      by_test q i ne w false k e' l = g.binders q (or_right (occurs q a) (occurs q u) i) (other_var st.var q (Evolve t e a u) cl (or_right (occurs q a) (occurs q u) i)) w e' l

  -- what the body has to give
  pub record BodyRaised : Type 0 where
    pub value : level_of A.stages p b st.var lv (Evolve t e a u) ≤ suc j → r.result ≡ s.1 d
    pub stages : KeptAt N.declared.ceiling st' (suc j) d (Some r.result) (s.1 d)
    pub holds : Holds A N (suc j) at b st' lv u D V' (local_map s.1) s.2 d r.body

  pub evolve_raised : BodyRaised → Raised A N d j p b st lv (Evolve t e a u) D V F s v tree
  evolve_raised h = record {
    value = λ l. r.is ∙ ap ValueLocal (h.value l) ∙ sym (s.3 d g.inside);
    holds = subst (λ T. Holds A N (suc j) p b st lv (Evolve t e a u) D V F s d T) (sym r.keeps) ((λ l. ap Some (h.value l)), h.stages, h.holds);
  }

  stage_constant : (pt : Pattern) (m base lag i n : ℕ) (rank : ℕ → ℕ) (o : Option LocalValue) (w : LocalValue) → pt ≡ pattern.Constant → StageBy m pt base lag rank i n o w
  stage_constant pt m base lag i n rank o w k = rw k tt

  pub constant_raised : A.pattern p ≡ pattern.Constant → occurs p u ≡ false → StepOf A N d j u → BodyRaised
  constant_raised k o ih =
      let h = ih at b st' lv D V' (local_map s.1) s.2 ((p, r.start) ∷ vars) (child_env 1 env) (ValueLocal r.result) r.body o body_given r.evaluates in
      record {
        value = λ l. let e = h.value (omega (arith, l)) in cc;
        stages = stage_constant (A.pattern p) N.declared.ceiling st'.base st'.lag (suc j) d st'.rank (Some r.result) (s.1 d) k;
        holds = h.holds;
      }
