-- A program that an analysis finds in the fragment has exactly one solution, and rounds reach it.
use Rattle.std.proofs.Common.{◌≡◌, ℕ, ◌≤◌, [], refl, sym, subst, arith, None}
use Rattle.fc_values.specs.Values.{LocalValue}
use Rattle.fc_values.specs.Trees.{Copy}
use Rattle.fc_nodes.specs.Terms.{term_type}
use Rattle.fc_nodes.specs.Typing.{HasType}
use Rattle.fc_nodes.specs.Program.{Program, Unfolding, unfolding_of, IsLawful, IsProgram}
use Rattle.device_eval.specs.Conditions.{Suits}
use Rattle.device_eval.proofs.OneExport.{copy_suits}
use Rattle.topology.specs.Networks.{Network, Lives, lives, IsNetwork, inputs_in}
use Rattle.topology.proofs.Lemmas.{inputs_fit}
use Rattle.firing_core.specs.Laws.{StepsKeepGood, CopiesFit, RunsCut}
use Rattle.interval_facts.specs.Ranges.{range_of, node_ranges, ranges_of}
use Rattle.interval_facts.specs.Solutions.{ValueMap, around, Solves, SolvesMain, no_binders, local_map}
use Rattle.interval_facts.specs.Claims.{InRanges}
use Rattle.interval_facts.proofs.Tables.{Shows, shows_itself}
use Rattle.converge_laws.specs.CoreLevels.{Raises}
use Rattle.converge_laws.specs.Fragment.{Analysis}
use Rattle.converge_laws.specs.Invariant.{ExportAt}
use Rattle.converge_laws.specs.Laws.{IsAnalysis, root_level}
use Rattle.converge_laws.specs.Stabilising.{HasOneSolution, Stabilises}
use Rattle.converge_laws.proofs.Around.{local_back, local_in, solution_fits}
use Rattle.converge_laws.proofs.Exists.{exists}
use Rattle.converge_laws.proofs.Given.{situation_at}
use Rattle.converge_laws.proofs.One.{one_solution}
use Rattle.converge_laws.proofs.Root.{main_fires}
use Rattle.converge_laws.proofs.Standing.{Standing, ranged}
use Rattle.converge_laws.proofs.Agreement.{local_same}
use Rattle.converge_laws.proofs.Whole.{step_of, converges}
use Rattle.rise.proofs.WithoutRise.{solves_agree}

module _ (P : Program) (A : Analysis) (N : Network) (program : IsProgram P) (net : IsNetwork N) (same : N.declared ≡ P.declared) (an : IsAnalysis (unfolding_of P) A N) where
  abbrev U : Unfolding
  U = unfolding_of P

  metric : N.declared.least ≤ N.declared.greatest
  metric = subst (λ D. D.least ≤ D.greatest) (sym same) program.lawful.metric.0

  greatest : N.declared.greatest ≤ N.declared.ceiling
  greatest = subst (λ D. D.greatest ≤ D.ceiling) (sym same) program.lawful.metric.1

  least : N.declared.least ≤ N.declared.ceiling
  least = omega (arith, metric, greatest)

  -- the whole program stands at its root
  stands : Standing A.ranges N net metric [] [] 0 U.main (lives N) no_binders
  stands = record {
    alive = λ d i. i;
    typed = subst (λ D. HasType D [] 0 U.main) (sym same) program.typed;
    fit = tt;
    hold = λ n r e. absurd cc;
    shows = subst (λ rs. Shows rs 0 (node_ranges N.declared [] 0 U.main)) (sym an.ranges) (subst (λ D. Shows (range_of U) 0 (node_ranges D [] 0 U.main)) (sym same) (shows_itself (ranges_of U)));
  }

  pub lies : (F : ℕ → LocalValue) (s : SolvesMain N U.main F) → InRanges A.ranges N 0 U.main (lives N) no_binders (local_map F) s
  lies F s = ranged A.ranges N net metric [] [] 0 U.main (lives N) no_binders (local_map F) stands s

  bare : ℕ → Copy
  bare d = record { device = d; inputs = inputs_in d N.devices; own = None; near = [] }

  suits : (d : ℕ) → Lives N d → Suits N.declared (situation_at N d)
  unfolding bare
  suits d l = copy_suits N.declared (bare d) (subst IsLawful (sym same) program.lawful) (inputs_fit N.declared N.devices d net.devices l)

  solution : (F : ValueMap) × Solves N 0 U.main (lives N) no_binders F
  solution = exists A N net an.for metric least greatest suits U.main [] [] 0 (lives N) no_binders an.fragment stands (λ q t e. absurd cc)

  pub one : HasOneSolution U N
  one = record {
    field = λ d. local_in (solution.0 d);
    solves = solved;
    only = λ G z d l. local_same (G d) (local_in (solution.0 d)) (one_solution A N net an.for U.main 0 (lives N) no_binders no_binders (local_map G) (local_map (λ d. local_in (solution.0 d))) an.fragment (λ q o d i. refl) z solved (lies (λ d. local_in (solution.0 d)) solved) d l);
  }
    where
      solved : SolvesMain N U.main (λ d. local_in (solution.0 d))
      solved = solves_agree N U.main 0 (lives N) no_binders solution.0 (local_map (λ d. local_in (solution.0 d)))
          (λ d i. (local_back N.declared.ceiling (around N (lives N) d) (term_type U.main) program.root.0 (solution.0 d) program.root.1 (solution_fits N net U.main 0 (lives N) no_binders solution.0 solution.1 d i)).0) solution.1

  module _ (keeps : StepsKeepGood) (fit : CopiesFit) (cuts : RunsCut) where
    pub raises : (F : ℕ → LocalValue) (s : SolvesMain N U.main F) → Raises (ExportAt U A N F s) U N
    raises F s = main_fires keeps fit cuts P A N program net same F s an.fragment (lies F s) (λ d j. step_of A N net an.for d j U.main)

    pub stabilised : Stabilises U N (root_level U A)
    stabilised = record {
      one = one;
      reached = converges keeps fit cuts P A N program net an.for same one.field one.solves an.fragment (lies one.field one.solves);
    }
