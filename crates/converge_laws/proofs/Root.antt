-- A firing of a copy that is that of a table at level j publishes an export at level j + 1, and so rounds reach the solution.
use Rattle.std.proofs.Common.{◌≡◌, ℕ, zero, suc, ◌≤◌, List, [], ◌∷◌, map, refl, sym, subst, arith, Option, Some, None, option_map}
use Rattle.std.specs.Prelude.{filter}
use Rattle.fc_values.specs.Types.{Declarations}
use Rattle.fc_values.specs.Values.{LocalValue}
use Rattle.fc_values.specs.Fields.{ValueLocal, is_in}
use Rattle.fc_values.specs.Trees.{Tree, TreeExport, Copy}
use Rattle.fc_nodes.specs.Terms.{size}
use Rattle.fc_nodes.specs.Program.{Program, Unfolding, unfolding_of, IsProgram}
use Rattle.fc_nodes.specs.Flat.{FitsTree, IsWellTyped}
use Rattle.device_eval.specs.Rules.{Evaluates}
use Rattle.device_eval.specs.Copies.{near_tree, env_of, situation_of, HasOneExport}
use Rattle.device_eval.proofs.OneExport.{program_export}
use Rattle.topology.specs.Networks.{Network, numbers, lives, Lives, near, IsNetwork}
use Rattle.firing_core.specs.Entries.{EntryValue}
use Rattle.firing_core.specs.Cores.{Map, Core, near_with, near_copies, copy_of, Run, IsGood}
use Rattle.firing_core.specs.Rounds.{HasRounds}
use Rattle.firing_core.specs.Laws.{StepsKeepGood, CopiesFit, RunsCut}
use Rattle.interval_facts.specs.Solutions.{near_among, local_map, no_binders, SolvesMain}
use Rattle.fragment_check.specs.Levels.{Lvs, level_of}
use Rattle.converge_laws.specs.Fragment.{Analysis}
use Rattle.converge_laws.specs.Invariant.{no_stage, ExportAt}
use Rattle.converge_laws.specs.CoreLevels.{MaybeAt, TableAt, Raises}
use Rattle.converge_laws.specs.Fragment.{TermInFragment}
use Rattle.interval_facts.specs.Claims.{InRanges}
use Rattle.topology.proofs.Lemmas.{AllNear, near_fits}
use Rattle.converge_laws.proofs.Near.{NearAre, OwnIs}
use Rattle.converge_laws.proofs.Given.{Here, Given, StepOf}
use Rattle.converge_laws.proofs.Step.{level_low}
use Rattle.fc_nodes.proofs.Fresh.{not_behind}
use Rattle.converge_laws.proofs.Down.{holds_less, holds_none}
use Rattle.converge_laws.proofs.RisingLevels.{rounds_law, good_start}

-- the neighbours of a device are there
all_stay : (D : Declarations) (ds : List ℕ) (d : ℕ) (ns : List (ℕ × ℕ)) → AllNear D ds d ns → filter (λ (n : ℕ × ℕ). is_in n.0 ds) ns ≡ ns
all_stay D ds d [] h = refl
all_stay D ds d (n ∷ ns) h = let t = h.0.there in let r = all_stay D ds d ns h.1 in rw (t, r) refl

module _ (keeps : StepsKeepGood) (fit : CopiesFit) (cuts : RunsCut) (p : Program) (A : Analysis) (N : Network) (program : IsProgram p) (net : IsNetwork N) (same : N.declared ≡ p.declared) (F : ℕ → LocalValue) (s : SolvesMain N (unfolding_of p).main F)
    (frag : TermInFragment A N.declared.ceiling 0 (unfolding_of p).main) (ranges : InRanges A.ranges N 0 (unfolding_of p).main (lives N) no_binders (local_map F) s) (steps : (d j : ℕ) → StepOf A N d j (unfolding_of p).main) where
  abbrev U : Unfolding
  U = unfolding_of p

  abbrev lv : Lvs
  lv = λ q. 0

  abbrev At : ℕ → ℕ → TreeExport → Type 0
  At j d e = ExportAt U A N F s j d e

  abbrev Tree_at : ℕ → ℕ → Tree → Type 0
  Tree_at j n T = Here A N j 0 1 (no_stage U.main) lv U.main (lives N) no_binders (local_map F) s n T

  no_claim : (d : ℕ) (e : TreeExport) → IsWellTyped U e → At 0 d e
  no_claim d e typed = record {
    typed = typed;
    value = λ l. let low = level_low A.stages 0 1 (size U.main) lv U.main in absurd (omega (arith, l, low));
    holds = holds_none A N 0 U.main 0 1 (no_stage U.main) lv (lives N) no_binders (local_map F) s d e.tree (omega arith) (omega arith);
  }

  typed_here : (e : TreeExport) → IsWellTyped U e → FitsTree N.declared.ceiling U.main e.tree
  typed_here e h = subst (λ (D : Declarations). FitsTree D.ceiling U.main e.tree) (sym same) h.tree

  near_at : (j d : ℕ) (f : Map TreeExport) → TableAt At N (suc j) f → (ns : List (ℕ × ℕ)) → AllNear N.declared (numbers N.devices) d ns → NearAre (Tree_at (suc j)) ns (map near_tree (near_copies f ns))
  near_at j d f h [] a = tt
  near_at j d f h (n ∷ ns) a = one (f n.0) (h n.0 a.0.there) (near_at j d f h ns a.1)
    where
      one : (o : Option TreeExport) → MaybeAt At (suc j) n.0 o → NearAre (Tree_at (suc j)) ns (map near_tree (near_copies f ns)) → NearAre (Tree_at (suc j)) (n ∷ ns) (map near_tree (near_with n o (near_copies f ns)))
      one None k r = absurd k
      one (Some e) k r = (refl, refl, (typed_here e k.typed, k.holds), r)

  own_at : (j d : ℕ) (o : Option TreeExport) → MaybeAt At (suc j) d o → OwnIs (Tree_at (suc j) d) (option_map (λ (e : TreeExport). e.tree) o)
  own_at j d None h = absurd h
  own_at j d (Some e) h = (typed_here e h.typed, h.holds)

  abbrev copy : Map TreeExport → ℕ → Copy
  copy f d = copy_of N f d

  main_given : (j : ℕ) (f : Map TreeExport) → TableAt At N j f → (d : ℕ) → Lives N d → Given A N d j 0 1 (no_stage U.main) lv U.main (lives N) no_binders (local_map F) s [] (env_of (copy f d))
  main_given j f h d l = record {
    frag = frag;
    ranges = ranges;
    inside = l;
    alive = l;
    low = omega arith;
    own = λ m. by_level j h m;
    near = λ m. near_level j h m;
    binders = λ q o ne w e. absurd cc;
  }
    where
      by_level : (i : ℕ) → TableAt At N i f → 1 ≤ i → OwnIs (Tree_at i d) (env_of (copy f d)).own
      by_level zero h m = absurd (omega arith)
      by_level (suc i) h m = own_at i d (f d) (h d l)

      near_level : (i : ℕ) → TableAt At N i f → 1 ≤ i → NearAre (Tree_at i) (near_among N (lives N) d) (env_of (copy f d)).near
      near_level zero h m = absurd (omega arith)
      near_level (suc i) h m =
          let all = near_fits N.declared (numbers N.devices) d N.links net.links in
          let e = all_stay N.declared (numbers N.devices) d (near N d) all in
          rw e (near_at i d f h (near N d) all)

  pub main_fires : Raises At U N
  main_fires = record {
    down = λ j d e l h. record { typed = h.typed; value = λ m. h.value (omega (arith, m)); holds = holds_less A N (suc j) j (omega arith) U.main 0 1 (no_stage U.main) lv (lives N) no_binders (local_map F) s d e.tree h.holds };
    first = λ d e l typed. no_claim d e typed;
    fires = λ j f typed h d l e v.
        let here = subst (λ (D : Declarations). Evaluates (situation_of D (copy f d)) 0 U.main [] (env_of (copy f d)) (ValueLocal e.value) e.tree) (sym same) v.main in
        let r = steps d j 0 1 (no_stage U.main) lv (lives N) no_binders (local_map F) s [] (env_of (copy f d)) (ValueLocal e.value) e.tree (not_behind U.declared (size U.main) 0 [] U.main program.typed tt (omega arith)) (main_given j f h d l) here in
        let one : HasOneExport U (copy f d) = program_export p (copy f d) program (fit U (record { net = N; exports = f; flying = λ e. None }) d (record { net = net; declared = same; exports = typed; flying = λ e x q. absurd cc }) l) in
        record {
          typed = subst (IsWellTyped U) (sym (one.only e v)) one.typed;
          value = λ m. let q = r.value m in cc;
          holds = r.holds;
        };
  }

  abbrev pub rounds : ℕ
  rounds = level_of A.stages 0 1 (size U.main) lv U.main

  -- after as many rounds as the level of the root, each export has the value of the solution
  pub reaches : (start core : Core) (log : List EntryValue) → IsGood U start → start.net ≡ N → Run U start log core → HasRounds (numbers N.devices) log rounds
      → (d : ℕ) → Lives N d → (e : TreeExport) × (core.exports d ≡ Some e) × (e.value ≡ F d)
  reaches start core log good e run has d l =
      let a = rounds_law keeps fit cuts At p N program net same main_fires rounds log start core (good_start keeps fit cuts At p N program net same main_fires start e good) run has in
      by_export rounds refl (core.exports d) refl (a.exports d l)
    where
      by_export : (k : ℕ) → k ≡ rounds → (o : Option TreeExport) → core.exports d ≡ o → MaybeAt At k d o → (e : TreeExport) × (core.exports d ≡ Some e) × (e.value ≡ F d)
      by_export k q (Some x) i h = (x, i, h.value (omega (arith, q)))
      by_export zero q None i h = let low = level_low A.stages 0 1 (size U.main) lv U.main in absurd (omega (arith, q, low))
      by_export (suc k) q None i h = absurd h
