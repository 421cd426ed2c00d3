-- Each term of the fragment: a firing of a copy at level j gives an export at level j + 1. So rounds reach the solution.
use Rattle.std.proofs.Common.{◌≡◌, ℕ, zero, suc, ◌≤◌, ◌+◌, ◌*◌, ◌/◌, List, [], ◌∷◌, refl, sym, ◌∙◌, ap, subst, arith, Bool, true, false, ◌||◌, Some}
use Rattle.fc_values.specs.Types.{LocalType, ValueType}
use Rattle.fc_values.specs.Values.{LocalValue}
use Rattle.fc_values.specs.Fields.{AnyValue}
use Rattle.fc_values.specs.BuiltinTypes.{inner}
use Rattle.fc_values.specs.Trees.{Tree, TreeExport}
use Rattle.fc_nodes.specs.Terms.{Literal, Variable, Sense, Uid, NbrLink, Evolution, ByRep, ByShare, Term, Terms, Plain, Apply, Nbr, Evolve, If, Let, NoMore, More, term_type, size}
use Rattle.fc_nodes.proofs.Kids.{size_some}
use Rattle.fc_nodes.specs.Program.{Program, unfolding_of, IsProgram}
use Rattle.alignment.specs.Environments.{Env}
use Rattle.alignment.specs.Scopes.{Vars}
use Rattle.topology.specs.Networks.{Network, IsNetwork, Lives, lives, numbers}
use Rattle.firing_core.specs.Entries.{EntryValue}
use Rattle.firing_core.specs.Cores.{Core, Run, IsGood}
use Rattle.firing_core.specs.Rounds.{HasRounds}
use Rattle.interval_facts.specs.Solutions.{Devices, ValueMap, ValueMaps, bind, around, local_map, evolved, Solves}
use Rattle.fc_nodes.specs.Variables.{is_own, occurs, occurs_in}
use Rattle.fragment_check.specs.Levels.{Lvs, level_of, level_all}
use Rattle.growth_facts.specs.Leads.{Close}
use Rattle.converge_laws.specs.Stages.{Stage}
use Rattle.growth_facts.specs.Beside.{Shallow, AllShallow, FieldPair}
use Rattle.interval_facts.specs.Claims.{InRanges}
use Rattle.converge_laws.proofs.Given.{Given, StepOf}
use Rattle.converge_laws.proofs.Step.{step_plain, step_nbr, step_all, step_apply, step_let, step_if}
use Rattle.converge_laws.proofs.Evolve.{Evolves, evolves_of, BodyRaised, evolve_raised, constant_raised}
use Rattle.converge_laws.proofs.Around.{around_up}
use Rattle.converge_laws.proofs.Climb.{climb_raised}
use Rattle.converge_laws.proofs.Minimise.{grows}
use Rattle.converge_laws.proofs.Root.{reaches}
use Rattle.fc_values.proofs.Rising.{rises_test}
use Rattle.fc_values.specs.declared.builtins.Builtin.TheVariants as op
use Rattle.std.proofs.Common.{◌-◌}
use Rattle.fc_values.specs.Types.{TypeLocal, TypeField}
use Rattle.firing_core.specs.Laws.{StepsKeepGood, CopiesFit, RunsCut}
use Rattle.interval_facts.specs.Solutions.{SolvesMain, no_binders}
use Rattle.growth_facts.specs.Leads.{least_integer, greatest_integer}
use Rattle.growth_facts.specs.Turns.{turns_of, steps_of}
use Rattle.growth_facts.specs.Beside.{IsPart}
use Rattle.growth_facts.proofs.Grow.{both_fit}
use Rattle.fragment_check.specs.declared.kinds.Pattern.{Pattern}
use Rattle.fragment_check.specs.Shapes.{HasPattern, constant, acyclic, minimising, rising}
use Rattle.fragment_check.specs.Verdicts.{stage_rounds, added_levels}
use Rattle.converge_laws.specs.Fragment.{Analysis, IsFor, TermInFragment}
use Rattle.converge_laws.specs.Stages.{lag_of}
use Rattle.converge_laws.proofs.Acyclic.{acyclic_raised}
use Rattle.converge_laws.proofs.Exact.{hood_types, head_of, last_stage}
use Rattle.converge_laws.proofs.LimitedRise.{turns_some, climb_rounds}
use Rattle.converge_laws.proofs.RiseStep.{rise_raised}
use Rattle.rise.proofs.Climbing.{turns_enough}

-- a body with its variable is above the level of the branch
mutual
  deep : (K : ℕ → ℕ) (q b x : ℕ) (lv : Lvs) (e : Evolution) (s : LocalType) (t : Term) → Shallow e x s t → occurs x t ≡ true → suc b ≤ level_of K q b x lv t
  deep K q b x lv e s (Plain t (Variable n)) h o = rw o (omega arith)
  deep K q b x lv e s (Plain t (Literal v)) h o = absurd cc
  deep K q b x lv e s (Plain t (Sense i)) h o = absurd cc
  deep K q b x lv e s (Plain t Uid) h o = absurd cc
  deep K q b x lv e s (Plain t NbrLink) h o = absurd cc
  deep K q b x lv ByRep s (Nbr t a) h o = let own : is_own x a ≡ true = (h o).0 in rw own (omega arith)
  deep K q b x lv ByShare s (Nbr t a) h o = let w : false ≡ true = (h o).0 in absurd cc
  deep K q b x lv e s (Apply t f xs) h o = all_deep K (suc q) b x lv e s xs h.1 o
  deep K q b x lv e s (Evolve t f a u) h o = absurd cc
  deep K q b x lv e s (If t c u w) h o = absurd cc
  deep K q b x lv e s (Let t a u) h o = absurd cc

  all_deep : (K : ℕ → ℕ) (q b x : ℕ) (lv : Lvs) (e : Evolution) (s : LocalType) (xs : Terms) → AllShallow e x s xs → occurs_in x xs ≡ true → suc b ≤ level_all K q b x lv xs
  all_deep K q b x lv e s NoMore h o = absurd cc
  all_deep K q b x lv e s (More t ts) h o = by_test (occurs x t) refl o (λ k. deep K q b x lv e s t h.0 k) (λ k. all_deep K (q + size t) b x lv e s ts h.1 k)
    where
      by_test : (c : Bool) → occurs x t ≡ c → (c || occurs_in x ts) ≡ true → (occurs x t ≡ true → suc b ≤ level_of K q b x lv t) → (occurs_in x ts ≡ true → suc b ≤ level_all K (q + size t) b x lv ts) → suc b ≤ level_all K q b x lv (More t ts)
      by_test true k o f g = let l = f k in omega (arith, l)
      by_test false k o f g = let l = g o in omega (arith, l)

module _ (A : Analysis) (N : Network) (net : IsNetwork N) (for : IsFor A N) (d j : ℕ) where
  abbrev M : ℕ
  M = N.declared.ceiling

  -- a body by its pattern
  by_pattern : (t : ValueType) (e : Evolution) (a u : Term) (p b : ℕ) (st : Stage) (lv : Lvs) (D : Devices) (V : ValueMaps) (F : ValueMap) (s : Solves N p (Evolve t e a u) D V F) (vars : Vars) (env : Env) (v : AnyValue) (tree : Tree)
      (cl : occurs st.var (Evolve t e a u) ≡ false) (g : Given A N d j p b st lv (Evolve t e a u) D V F s vars env) (r : Evolves N d p e a u vars env v tree) → ((y : Term) → size y ≤ size u → StepOf A N d j y)
      → (pt : Pattern) → A.pattern p ≡ pt → A.stages p ≡ added_levels A.devices A.bounds e pt → HasPattern M A.ranges e p (suc p + size a) (inner t) u pt → BodyRaised A N d j t e a u p b st lv D V F s vars env v tree cl g r
  by_pattern t e a u p b st lv D V F s vars env v tree cl g r P pt is stages (constant u' o) =
      constant_raised A N d j t e a u p b st lv D V F s vars env v tree cl g r is o (P u (omega arith))
  by_pattern t e a u p b st lv D V F s vars env v tree cl g r P pt is stages (acyclic u' q o sh gd) =
      acyclic_raised A N d j t e a u p b st lv D V F s vars env v tree cl g r net (deep A.stages (suc p + size a) b p lv e (inner t) u sh o) q is o sh gd P for.devices stages
  by_pattern t e a u p b st lv D V F s vars env v tree cl g r P pt is stages (minimising t' h l c o n sh gr pos pair) =
      let U : Term = Apply t' op.MinHoodLoc (More h (More l NoMore)) in
      let at : ℕ = suc p + size a in
      let W : ValueMaps = bind p (evolved e N D s.1) V in
      let top : ℕ = greatest_integer (A.ranges (suc at + size h)) in
      let types = hood_types (term_type h ∷ term_type l ∷ []) t' sh.0 in
      let two = head_of (term_type h) (term_type l) (TypeField types.of) (TypeLocal types.of) [] [] types.arguments in
      let rising = rises_test (around N D d) (around_up N net D d) in
      climb_raised A N d j t e a U p b st lv D V F s vars env v tree cl g r net c top is sh (deep A.stages at b p lv e (inner t) U sh o) P
      (λ k x w z. (
        grows M d k c (around N D d) e p s.1 A.ranges rising at t' h l x w n gr (ap inner two.0 ∙ sym (ap inner two.1)) z,
        (both_fit M d (around N D d) e p (FieldPair (λ n y z. Close k y z × (z ≡ s.1 n))) (IsPart M (around N D d) A.ranges) A.ranges rising (λ q k x f. f) z).0,
      ))
      (stages ∙ rounds_of_climb e top c)
      (λ x q f z. last_stage N net A.ranges D W e p at c t' h l (inner t) (local_map s.1) sh o n gr pos (for.ends (suc at + size h)) pair s.2 g.ranges.1 d g.inside x (s.1 d) f refl z)
    where
      rounds_of_climb : (e : Evolution) (top c : ℕ) → stage_rounds e * (steps_of top c - 1) ≡ (top / c) * (1 + lag_of e)
      rounds_of_climb ByRep top c = climb_rounds top c 2
      rounds_of_climb ByShare top c = climb_rounds top c 1
  by_pattern t e a u p b st lv D V F s vars env v tree cl g r P pt is stages (rising t1 u1 h l own w c rep rule ow n nw sh shw gr pos low) =
      let at : ℕ = suc p + size a in
      let T : Term = Apply u1 op.MinHoodLoc (More h (More l NoMore)) in
      let place : ℕ = suc at + size T + size own in
      let place' : ℕ = suc (suc (suc at + size h + size l)) in
      let same_place : place ≡ place' = let z = own_size own ow in omega (arith, z) in
      let r' : ℕ = least_integer (A.ranges place') in
      let some = turns_some c r' pos low in
      let k = pred_of (turns_of c r') some in
      let enough : c ≤ suc k.0 * r' = let z = turns_enough c r' low in let q = k.1 in subst (λ (x : ℕ). c ≤ x * r') q z in
      rise_raised t1 u1 h l own w A N d j t e a p b st lv D V F s vars env v tree cl g r net (deep_own at ow) rep P ow nw sh c r' (greatest_integer (A.ranges (suc (suc at) + size h))) k.0 is k.1 enough low
      (ap (λ x. least_integer (A.ranges x)) (sym same_place)) n gr pos refl (for.ends (suc (suc at) + size h)) stages
    where
      own_size : (own : Term) → is_own p own ≡ true → size own ≡ 1
      own_size (Plain t' l') o = refl
      own_size (Apply t' f xs) o = absurd cc
      own_size (Nbr t' k) o = absurd cc
      own_size (Evolve t' f k l') o = absurd cc
      own_size (If t' c' k l') o = absurd cc
      own_size (Let t' k l') o = absurd cc

      pred_of : (n : ℕ) → 1 ≤ n → (k : ℕ) × (n ≡ suc k)
      pred_of zero l' = absurd (omega (arith, l'))
      pred_of (suc n) l' = (n, refl)

      own_level : (q : ℕ) (own : Term) → is_own p own ≡ true → suc b ≤ level_of A.stages q b p lv own
      own_level q (Plain t' (Variable n)) o = rw o (omega arith)
      own_level q (Plain t' (Literal x)) o = absurd cc
      own_level q (Plain t' (Sense i)) o = absurd cc
      own_level q (Plain t' Uid) o = absurd cc
      own_level q (Plain t' NbrLink) o = absurd cc
      own_level q (Apply t' f xs) o = absurd cc
      own_level q (Nbr t' k) o = absurd cc
      own_level q (Evolve t' f k l') o = absurd cc
      own_level q (If t' c' k l') o = absurd cc
      own_level q (Let t' k l') o = absurd cc

      deep_own : (at : ℕ) → is_own p own ≡ true → suc b ≤ level_of A.stages at b p lv (Apply t1 op.Rise (More (Apply u1 op.MinHoodLoc (More h (More l NoMore))) (More own (More w NoMore))))
      deep_own at o = let z = own_level (suc at + size (Apply u1 op.MinHoodLoc (More h (More l NoMore)))) own o in omega (arith, z)

  step_to : (k : ℕ) (t : Term) → size t ≤ k → StepOf A N d j t
  step_to zero t z = let o = size_some t in absurd (omega (arith, o, z))
  step_to (suc k) (Plain t l) z = step_plain A N d j t l
  step_to (suc k) (Nbr t a) z = step_nbr A N d j t a (step_to k a (omega (arith, z)))
  step_to (suc k) (Apply t o xs) z = step_apply A N d j t o xs (step_all A N d j xs (λ r l. step_to k r (omega (arith, z, l))))
  step_to (suc k) (Evolve t e a u) z = λ p b st lv D V F s vars env v tree cl g h.
      let r = evolves_of N d p t e a u vars env v tree h in
      evolve_raised A N d j t e a u p b st lv D V F s vars env v tree cl g r (by_pattern t e a u p b st lv D V F s vars env v tree cl g r (λ y l. step_to k y (omega (arith, z, l))) (A.pattern p) refl g.frag.1 g.frag.0)
  step_to (suc k) (If t c u w) z = step_if A N d j t c u w (step_to k c (omega (arith, z))) (step_to k u (omega (arith, z))) (step_to k w (omega (arith, z)))
  step_to (suc k) (Let t a u) z = step_let A N d j t a u (step_to k a (omega (arith, z))) (step_to k u (omega (arith, z)))

  pub step_of : (t : Term) → StepOf A N d j t
  step_of t = step_to (size t) t (omega arith)

-- from every good core, after as many rounds as the level of `main`, each export has the value of a solution in its ranges
pub converges : (keeps : StepsKeepGood) (fit : CopiesFit) (cuts : RunsCut) (p : Program) (A : Analysis) (N : Network) (program : IsProgram p) (net : IsNetwork N) (for : IsFor A N) (same : N.declared ≡ p.declared) (F : ℕ → LocalValue) (s : SolvesMain N (unfolding_of p).main F)
    → TermInFragment A N.declared.ceiling 0 (unfolding_of p).main → InRanges A.ranges N 0 (unfolding_of p).main (lives N) no_binders (local_map F) s
    → (start core : Core) (log : List EntryValue) → IsGood (unfolding_of p) start → start.net ≡ N → Run (unfolding_of p) start log core
    → HasRounds (numbers N.devices) log (level_of A.stages 0 1 (size (unfolding_of p).main) (λ q. 0) (unfolding_of p).main)
    → (d : ℕ) → Lives N d → (e : TreeExport) × (core.exports d ≡ Some e) × (e.value ≡ F d)
converges keeps fit cuts p A N program net for same F s frag ranges start core log good here run has d l =
    reaches keeps fit cuts p A N program net same F s frag ranges (λ d j. step_of A N net for d j (unfolding_of p).main) start core log good here run has d l
