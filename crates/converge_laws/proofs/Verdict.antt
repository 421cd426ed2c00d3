-- A verdict's yes gives an analysis.
use Rattle.std.proofs.Common.{◌≡◌, ℕ, zero, suc, arith, ◌≤◌, ◌+◌, List, [], ◌∷◌, ◌++◌, length, refl, sym, ◌∙◌, ap, subst, Bool, true, false, Option, Some, None, nat_eq}
use Rattle.std.specs.Prelude.{if◌then◌else◌}
use Rattle.std.proofs.lemmas.Bool.{eqb-true}
use Rattle.std.specs.declared.result.Result.{Result}
use Rattle.std.specs.declared.result.Result.TheVariants.{Ok, Err}
use Rattle.fc_values.specs.Types.{ValueType, Declarations}
use Rattle.fc_values.specs.BuiltinTypes.{inner}
use Rattle.fc_values.specs.Trees.{TreeExport}
use Rattle.fc_nodes.specs.declared.verdicts.Reason.{Reason}
use Rattle.fc_nodes.specs.declared.verdicts.Verdict.TheVariants as verdict
use Rattle.fc_nodes.specs.Terms.{Leaf, Literal, Variable, Sense, Uid, NbrLink, Term, Terms, Plain, Apply, Nbr, Evolve, If, Let, NoMore, More, term_type, size, term_at, Laid, AllLaid}
use Rattle.fc_nodes.specs.Typing.{Scope, type_at, evolving_type, HasType, HaveTypes}
use Rattle.fc_nodes.specs.Subterms.{subterm_at}
use Rattle.fc_nodes.specs.Program.{Program, Unfolding, unfolding_of, IsProgram}
use Rattle.fc_nodes.proofs.Places.{formed_above}
use Rattle.fc_nodes.proofs.Kids.{laid_term}
use Rattle.fc_nodes.proofs.Subterms.{subterm_is}
use Rattle.topology.specs.Networks.{Network}
use Rattle.firing_core.specs.Rounds.{after_edit}
use Rattle.firing_core.specs.Laws.{StepsKeepGood, RunsKeepGood, CopiesFit, RunsCut, RunsCutAtEdit}
use Rattle.interval_facts.specs.Ranges.{RangeValue, Bounds, full, binding_range, term_range, node_ranges, all_node_ranges, range_of, ranges_of}
use Rattle.interval_facts.proofs.Tables.{Shows, shows_first, shows_second, shows_itself, as_many}
use Rattle.growth_facts.specs.Leads.{greatest_integer}
use Rattle.fragment_check.specs.declared.kinds.Pattern.{Pattern}
use Rattle.fragment_check.specs.Patterns.{JudgedPlace, pattern_of, judged, all_judged, refusal_first, first_refused}
use Rattle.fragment_check.specs.Shapes.{HasPattern}
use Rattle.fragment_check.specs.Laws.{PatternsHaveShapes}
use Rattle.fragment_check.specs.Verdicts.{bound_range, variable_range, added_levels, added_by, added_at, judged_of, main_level, verdict_by}
use Rattle.converge_laws.specs.Fragment.{Analysis, TermInFragment, TermsInFragment}
use Rattle.converge_laws.specs.Laws.{IsAnalysis, root_level}
use Rattle.converge_laws.specs.CoreLevels.{MaybeAt}
use Rattle.converge_laws.specs.Stabilising.{HasOneSolution, Stabilises}
use Rattle.converge_laws.specs.Verdicts.{pattern_or, analysis_of, level_by, YesAnalyses, YesStabilises, YesRaises, YesSettles}
use Rattle.converge_laws.proofs.Ends.{greatest_within, get_within, nodes_within}
use Rattle.converge_laws.proofs.RisingLevels.{good_start, levels_of_steps}
use Rattle.converge_laws.proofs.Step.{level_low}
use Rattle.converge_laws.proofs.Stabilised.{stabilised, one, raises}

-- none is refused among two lists of judgements
none_both : (js ks : List JudgedPlace) → first_refused (js ++ ks) ≡ None → (first_refused js ≡ None) × (first_refused ks ≡ None)
none_both [] ks h = (refl, h)
none_both (j ∷ js) ks h = by_judgement j.1 refl h (λ k. none_both js ks k)
  where
    by_judgement : (r : Result Pattern Reason) → j.1 ≡ r → refusal_first j.0 r (first_refused (js ++ ks)) ≡ None → (first_refused (js ++ ks) ≡ None → (first_refused js ≡ None) × (first_refused ks ≡ None))
        → (refusal_first j.0 j.1 (first_refused js) ≡ None) × (first_refused ks ≡ None)
    by_judgement (Ok a) q h ih = let k = ih h in (rw q k.0, k.1)
    by_judgement (Err r) q h ih = absurd cc

none_first : (p : ℕ) (r : Result Pattern Reason) (rest : Option (ℕ × Reason)) → refusal_first p r rest ≡ None → (a : Pattern) × (r ≡ Ok a) × (rest ≡ None)
none_first p (Ok a) rest h = (a, refl, h)
none_first p (Err r) rest h = absurd cc

module _ (shapes : PatternsHaveShapes) (P : Program) (n : ℕ) (program : IsProgram P) where
  abbrev U : Unfolding
  U = unfolding_of P

  abbrev D : Declarations
  D = P.declared

  abbrev R : ℕ → RangeValue
  R = range_of U

  abbrev A : Analysis
  A = analysis_of U n

  -- the part of a program at a place is the term that stands there
  stands_at : (t : Term) (p : ℕ) → Laid P.nodes p t → subterm_at p U.main ≡ t
  stands_at t p la = subterm_is P.nodes program.formed p ∙ laid_term P.nodes (formed_above P.nodes program.formed) t p la

  -- the binders in scope have the ranges of their variables
  abbrev Bound : Scope → Bounds → Type 0
  Bound [] [] = Unit {0}
  Bound (b ∷ bs) (c ∷ cs) = (b.0 ≡ c.0) × (c.1 ≡ variable_range U c.0) × Bound bs cs
  Bound _ _ = ⊥

  bound_is : (other : RangeValue) (q : ℕ) (t : ValueType) (bs : Scope) (cs : Bounds) → type_at q bs ≡ Some t → Bound bs cs → binding_range other q cs ≡ variable_range U q
  bound_is other q t [] [] e h = absurd cc
  bound_is other q t [] (c ∷ cs) e h = absurd h
  bound_is other q t (b ∷ bs) [] e h = absurd h
  bound_is other q t (b ∷ bs) (c ∷ cs) e h = by_test (nat_eq c.0 q) refl (λ k. bound_is other q t bs cs k h.2)
    where
      by_test : (own : Bool) → nat_eq c.0 q ≡ own → (type_at q bs ≡ Some t → binding_range other q cs ≡ variable_range U q) → (if own then c.1 else binding_range other q cs) ≡ variable_range U q
      by_test true i f = h.1 ∙ ap (variable_range U) (eqb-true c.0 q i)
      by_test false i f = let j : nat_eq b.0 q ≡ false = rw (sym h.0) at i in f (rw j at e)

  first_shown : (t : Term) (p : ℕ) (cs : Bounds) → Shows R p (node_ranges D cs p t) → R p ≡ term_range D cs p t
  first_shown (Plain t l) p cs h = h.0
  first_shown (Apply t o xs) p cs h = h.0
  first_shown (Nbr t a) p cs h = h.0
  first_shown (Evolve t e a u) p cs h = h.0
  first_shown (If t c u w) p cs h = h.0
  first_shown (Let t a u) p cs h = h.0

  leaf_fragment : (t : ValueType) (l : Leaf) (p : ℕ) (bs : Scope) (cs : Bounds) → HasType D bs p (Plain t l) → Bound bs cs → Shows R p (node_ranges D cs p (Plain t l)) → TermInFragment A D.ceiling p (Plain t l)
  leaf_fragment t (Variable q) p bs cs ty b sh = sh.0 ∙ bound_is (full D.ceiling (inner t)) q t bs cs ty b
  leaf_fragment t (Literal v) p bs cs ty b sh = tt
  leaf_fragment t (Sense i) p bs cs ty b sh = tt
  leaf_fragment t Uid p bs cs ty b sh = tt
  leaf_fragment t NbrLink p bs cs ty b sh = tt

  mutual
    in_fragment : (t : Term) (p : ℕ) (bs : Scope) (cs : Bounds) → Laid P.nodes p t → HasType D bs p t → Bound bs cs → Shows R p (node_ranges D cs p t) → first_refused (judged D.ceiling R p t) ≡ None → TermInFragment A D.ceiling p t
    in_fragment (Plain t l) p bs cs la ty b sh h = leaf_fragment t l p bs cs ty b sh
    in_fragment (Apply t o xs) p bs cs la ty b sh h = all_in_fragment xs (suc p) bs cs la.1 ty.1 b sh.1 h
    in_fragment (Nbr t a) p bs cs la ty b sh h = in_fragment a (suc p) bs cs la.1 ty.3 b sh.1 h
    in_fragment (Evolve t e a u) p bs cs la ty b sh h =
        let k = none_first p (pattern_of D.ceiling R p (Evolve t e a u)) (first_refused (judged D.ceiling R (suc p + size a) u)) h in
        let here = stands_at (Evolve t e a u) p la in
        let is : A.pattern p ≡ k.0 = ap (λ z. pattern_or (pattern_of D.ceiling R p z)) here ∙ ap pattern_or k.1 in
        let added : A.stages p ≡ added_levels n (variable_range U) e k.0 = ap (added_at D.ceiling R (variable_range U) n p) here ∙ ap (added_by n (variable_range U) e) k.1 in
        let has = shapes D bs D.ceiling R e p (suc p + size a) ty.0 u k.0 ty.5 k.1 in
        let has' : HasPattern D.ceiling R e p (suc p + size a) (inner t) u k.0 = subst (λ s. HasPattern D.ceiling R e p (suc p + size a) s u k.0) (sym (ap inner ty.1)) has in (
          subst (HasPattern D.ceiling R e p (suc p + size a) (inner t) u) (sym is) has',
          added ∙ ap (added_levels n (variable_range U) e) (sym is),
          in_fragment u (suc p + size a) ((p, evolving_type e ty.0) ∷ bs) ((p, full D.ceiling (inner t)) ∷ cs) la.2 ty.5 (refl, sym (ap (bound_range D.ceiling R p) here), b)
              (shows_second R (suc p) (size a) (node_ranges D cs (suc p) a) (node_ranges D ((p, full D.ceiling (inner t)) ∷ cs) (suc p + size a) u) (as_many D a cs (suc p)) sh.1) k.2,
        )
    in_fragment (If t c u w) p bs cs la ty b sh h =
        let k = none_both (judged D.ceiling R (suc p) c) (judged D.ceiling R (suc p + size c) u ++ judged D.ceiling R (suc p + size c + size u) w) h in
        let l = none_both (judged D.ceiling R (suc p + size c) u) (judged D.ceiling R (suc p + size c + size u) w) k.1 in
        let first = shows_first R (suc p) (size c) (node_ranges D cs (suc p) c) (node_ranges D cs (suc p + size c) u ++ node_ranges D cs (suc p + size c + size u) w) (as_many D c cs (suc p)) sh.1 in
        let rest = shows_second R (suc p) (size c) (node_ranges D cs (suc p) c) (node_ranges D cs (suc p + size c) u ++ node_ranges D cs (suc p + size c + size u) w) (as_many D c cs (suc p)) sh.1 in
        let second = shows_first R (suc p + size c) (size u) (node_ranges D cs (suc p + size c) u) (node_ranges D cs (suc p + size c + size u) w) (as_many D u cs (suc p + size c)) rest in
        let third = shows_second R (suc p + size c) (size u) (node_ranges D cs (suc p + size c) u) (node_ranges D cs (suc p + size c + size u) w) (as_many D u cs (suc p + size c)) rest in (
          in_fragment c (suc p) bs cs la.1 ty.5 b first k.0,
          in_fragment u (suc p + size c) bs cs la.2 ty.6 b second l.0,
          in_fragment w (suc p + size c + size u) bs cs la.3 ty.7 b third l.1,
        )
    in_fragment (Let t a u) p bs cs la ty b sh h =
        let k = none_both (judged D.ceiling R (suc p) a) (judged D.ceiling R (suc p + size a) u) h in
        let here = stands_at (Let t a u) p la in
        let first = shows_first R (suc p) (size a) (node_ranges D cs (suc p) a) (node_ranges D ((p, term_range D cs (suc p) a) ∷ cs) (suc p + size a) u) (as_many D a cs (suc p)) sh.1 in
        let rest = shows_second R (suc p) (size a) (node_ranges D cs (suc p) a) (node_ranges D ((p, term_range D cs (suc p) a) ∷ cs) (suc p + size a) u) (as_many D a cs (suc p)) sh.1 in (
          in_fragment a (suc p) bs cs la.1 ty.1 b first k.0,
          in_fragment u (suc p + size a) ((p, term_type a) ∷ bs) ((p, term_range D cs (suc p) a) ∷ cs) la.2 ty.2
              (refl, sym (first_shown a (suc p) cs first) ∙ sym (ap (bound_range D.ceiling R p) here), b) rest k.1,
        )

    all_in_fragment : (xs : Terms) (p : ℕ) (bs : Scope) (cs : Bounds) → AllLaid P.nodes p xs → HaveTypes D bs p xs → Bound bs cs → Shows R p (all_node_ranges D cs p xs) → first_refused (all_judged D.ceiling R p xs) ≡ None → TermsInFragment A D.ceiling p xs
    all_in_fragment NoMore p bs cs la ty b sh h = tt
    all_in_fragment (More x xs) p bs cs la ty b sh h =
        let k = none_both (judged D.ceiling R p x) (all_judged D.ceiling R (p + size x) xs) h in (
          in_fragment x p bs cs la.0 ty.0 b (shows_first R p (size x) (node_ranges D cs p x) (all_node_ranges D cs (p + size x) xs) (as_many D x cs p) sh) k.0,
          all_in_fragment xs (p + size x) bs cs la.1 ty.1 b (shows_second R p (size x) (node_ranges D cs p x) (all_node_ranges D cs (p + size x) xs) (as_many D x cs p) sh) k.1,
        )

  -- where nothing is refused
  analysed : (N : Network) → N.declared ≡ P.declared → n ≡ length N.devices → first_refused (judged_of U) ≡ None → IsAnalysis U A N
  analysed N same count none = record {
    ranges = refl;
    for = record {
      devices = count;
      ends = λ p. subst (λ k. greatest_integer (R p) ≤ k.ceiling) (sym same)
          (greatest_within D.ceiling (R p) (get_within D.ceiling (ranges_of U) p (nodes_within D program.lawful (term_at P.nodes 0) 0 [] [] program.typed tt)));
    };
    fragment = subst (λ k. TermInFragment A k.ceiling 0 (term_at P.nodes 0)) (sym same)
        (in_fragment (term_at P.nodes 0) 0 [] [] program.formed.laid program.typed tt (shows_itself (ranges_of U)) none);
  }

-- a yes has nothing refused, and its number is the level of `main`
yes_says : (o : Option (ℕ × Reason)) (level k : ℕ) → verdict_by o level ≡ verdict.Yes k → (o ≡ None) × (level ≡ k)
yes_says None level k h = (refl, cc)
yes_says (Some j) level k h = absurd cc

pub yes_analyses : PatternsHaveShapes → YesAnalyses
yes_analyses shapes P N k program net same h =
    let y = yes_says (first_refused (judged_of (unfolding_of P))) (main_level (unfolding_of P) (length N.devices)) k h in
    record { analysis = analysed shapes P (length N.devices) program N same refl y.0; level = y.1 }

pub yes_stabilises : PatternsHaveShapes → StepsKeepGood → CopiesFit → RunsCut → YesStabilises
yes_stabilises shapes keeps fit cuts P N k program net same h =
    let a = yes_analyses shapes P N k program net same h in
    subst (Stabilises (unfolding_of P) N) a.level (stabilised P (analysis_of (unfolding_of P) (length N.devices)) N program net same a.analysis keeps fit cuts)

-- at the level of `main` an export is there, and has the value of the solution
at_root : (U : Unfolding) (N : Network) (s : HasOneSolution U N) (k : ℕ) → root_level U (analysis_of U (length N.devices)) ≡ k
    → (d : ℕ) (o : Option TreeExport) → MaybeAt (level_by U N s) k d o → (e : TreeExport) × (o ≡ Some e) × (e.value ≡ s.field d)
at_root U N s k q d (Some e) h = (e, refl, h.value (omega (arith, q)))
at_root U N s zero q d None h =
    let low = level_low (analysis_of U (length N.devices)).stages 0 1 (size U.main) (λ p. 0) U.main in
    absurd (omega (arith, q, low))
at_root U N s (suc k) q d None h = absurd h

pub yes_raises : PatternsHaveShapes → StepsKeepGood → CopiesFit → RunsCut → YesRaises
yes_raises shapes keeps fit cuts P N k program net same h =
    let a = yes_analyses shapes P N k program net same h in
    let A = analysis_of (unfolding_of P) (length N.devices) in
    let only = one P A N program net same a.analysis in
    let r = raises P A N program net same a.analysis keeps fit cuts only.field only.solves in
    record {
      one = only;
      raises = r;
      begins = good_start keeps fit cuts (level_by (unfolding_of P) N only) P N program net same r;
      steps = levels_of_steps keeps fit cuts (level_by (unfolding_of P) N only) P N program net same r;
      reached = λ d o i. at_root (unfolding_of P) N only k a.level d o i;
    }

pub yes_settles : PatternsHaveShapes → StepsKeepGood → RunsKeepGood → CopiesFit → RunsCut → RunsCutAtEdit → YesSettles
yes_settles shapes keeps runs fit cuts edits P start last log k program good run h rounds =
    let cut = edits (unfolding_of P) start last log run in
    let there = runs P start cut.middle cut.front program good cut.first in
    let end = runs P start last log program good run in
    let s = yes_stabilises shapes keeps fit cuts P last.net k program end.net end.declared h in
    record { one = s.one; values = λ d l. s.reached cut.middle last (after_edit log) there (sym cut.net) cut.second rounds d l }
