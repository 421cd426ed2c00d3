-- The level invariant: where an export agrees with the solution.
use Rattle.std.specs.Prelude.{ℕ, suc, true, false, ◌≡◌, ◌≤◌, ◌+◌, List, [], ◌∷◌, Some}
use Rattle.fc_values.specs.Values.{LocalValue, BoolValue}
use Rattle.fc_values.specs.Trees.{Tree, kept_of, child, TreeExport}
use Rattle.fc_nodes.specs.Terms.{Evolution, Term, Terms, Plain, Apply, Nbr, Evolve, If, Let, NoMore, More, size}
use Rattle.fc_nodes.specs.Program.{Unfolding}
use Rattle.fc_nodes.specs.Flat.{IsWellTyped}
use Rattle.topology.specs.Networks.{Network, lives}
use Rattle.interval_facts.specs.Solutions.{Devices, ValueMap, ValueMaps, bind, local_map, evolved, where_is, Solves, SolveAll, no_binders, SolvesMain}
use Rattle.fc_nodes.specs.Variables.{is_own}
use Rattle.fragment_check.specs.Levels.{Lvs, bind_level, level_of}
use Rattle.converge_laws.specs.Fragment.{Analysis}
use Rattle.converge_laws.specs.Stages.{Stage, rank_by, lag_of, KeptAt, HeardAt}
use Rattle.fragment_check.specs.declared.kinds.Pattern.TheVariants as pattern

-- the stages of a `rep` or `share`
abbrev pub stage_of : Analysis → Network → ℕ → ℕ → Lvs → Evolution → Term → Term → Devices → ValueMaps → Stage
stage_of A N p b lv e a u D V = record {
  var = p;
  base = level_of A.stages (suc p + size a) b p lv u;
  lag = lag_of e;
  pattern = A.pattern p;
  rank = rank_by (A.pattern p) N D V;
}

-- The tree of device n at level j, against the parts of a solution. b is the level of the branch, st the `rep` or
-- `share` around, lv the levels of the binders.
abbrev mutual
  pub Holds : (A : Analysis) (N : Network) (j p b : ℕ) (st : Stage) (lv : Lvs) (t : Term) (D : Devices)
      (V : ValueMaps) (F : ValueMap)
      → Solves N p t D V F → ℕ → Tree → Type 0
  Holds A N j p b st lv (Plain t l) D V F s n T = Unit {0}
  Holds A N j p b st lv (Apply t o xs) D V F s n T = HoldAll A N j (suc p) 0 b st lv xs D V s.1 s.2 n T
  Holds A N j p b st lv (Nbr t a) D V F s n T =
      (is_own st.var a ≡ false → level_of A.stages (suc p) b st.var lv a ≤ j → kept_of T ≡ Some (s.1 n))
      × (is_own st.var a ≡ true → HeardAt N.declared.ceiling st j n (kept_of T) (s.1 n))
      × Holds A N j (suc p) b st lv a D V (local_map s.1) s.2 n (child 0 T)
  Holds A N j p b st lv (Evolve t e a u) D V F s n T =
      (level_of A.stages p b st.var lv (Evolve t e a u) ≤ j → kept_of T ≡ Some (s.1 n))
      × KeptAt N.declared.ceiling (stage_of A N p b lv e a u D V) j n (kept_of T) (s.1 n)
      × Holds A N j (suc p + size a) b (stage_of A N p b lv e a u D V) lv u D (bind p (evolved e N D s.1) V)
      (local_map s.1) s.2 n
      (child 1 T)
  Holds A N j p b st lv (If t c u v) D V F s n T =
      (level_of A.stages (suc p) b st.var lv c ≤ j → kept_of T ≡ Some (BoolValue (s.1 n)))
      × Holds A N j (suc p) b st lv c D V (local_map (λ d. BoolValue (s.1 d))) s.2 n (child 0 T)
      × (level_of A.stages (suc p) b st.var lv c ≤ j → s.1 n ≡ true
      → Holds A N j (suc p + size c) (level_of A.stages (suc p) b st.var lv c) st lv u (where_is true D s.1) V F s.3
      n (child 1 T))
      × (level_of A.stages (suc p) b st.var lv c ≤ j → s.1 n ≡ false
      → Holds A N j (suc p + size c + size u) (level_of A.stages (suc p) b st.var lv c) st lv v
      (where_is false D s.1) V F s.4 n
      (child 1 T))
  Holds A N j p b st lv (Let t a u) D V F s n T =
      Holds A N j (suc p) b st lv a D V s.1 s.2 n (child 0 T)
      × Holds A N j (suc p + size a) b st (bind_level p (level_of A.stages (suc p) b st.var lv a) lv) u D
      (bind p s.1 V) F s.3 n
      (child 1 T)

  pub HoldAll : (A : Analysis) (N : Network) (j p i b : ℕ) (st : Stage) (lv : Lvs) (xs : Terms) (D : Devices)
      (V : ValueMaps) (Gs : List ValueMap) → SolveAll N p xs D V Gs → ℕ → Tree → Type 0
  HoldAll A N j p i b st lv NoMore D V Gs s n T = Unit {0}
  HoldAll A N j p i b st lv (More x xs) D V [] s n T = ⊥
  HoldAll A N j p i b st lv (More x xs) D V (G ∷ Gs) s n T =
      Holds A N j p b st lv x D V G s.0 n (child i T) × HoldAll A N j (p + size x) (suc i) b st lv xs D V Gs s.1 n T

-- no `rep` or `share` around: the place of no binder
abbrev pub no_stage : Term → Stage
no_stage t = record { var = size t; base = 1; lag = 0; pattern = pattern.Constant; rank = λ n. 0 }

-- an export of device d at level j
pub record ExportAt (U : Unfolding) (A : Analysis) (N : Network) (F : ℕ → LocalValue) (s : SolvesMain N U.main F)
    (j d : ℕ) (e : TreeExport)
    : Type 0 where
  pub typed : IsWellTyped U e
  pub value : level_of A.stages 0 1 (size U.main) (λ q. 0) U.main ≤ j → e.value ≡ F d
  pub holds : Holds A N j 0 1 (no_stage U.main) (λ q. 0) U.main (lives N) no_binders (local_map F) s d e.tree
