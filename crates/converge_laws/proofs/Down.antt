-- A level implies the one below it, and below the level of the branch nothing is said.
use Rattle.std.proofs.Common.{ℕ, suc, ◌≤◌, ◌<◌, ◌+◌, List, [], ◌∷◌, arith, true, false, Option}
use Rattle.fc_values.specs.Values.{LocalValue, BoolValue}
use Rattle.fc_values.specs.Trees.{Tree, kept_of, child}
use Rattle.fc_nodes.specs.Terms.{Term, Terms, Plain, Apply, Nbr, Evolve, If, Let, NoMore, More, size}
use Rattle.topology.specs.Networks.{Network}
use Rattle.interval_facts.specs.Solutions.{Devices, ValueMap, ValueMaps, bind, local_map, evolved, where_is, Solves, SolveAll}
use Rattle.fragment_check.specs.Levels.{Lvs, bind_level, level_of}
use Rattle.converge_laws.specs.Fragment.{Analysis}
use Rattle.converge_laws.specs.Stages.{Stage, StageBy}
use Rattle.converge_laws.specs.Invariant.{stage_of, Holds, HoldAll}
use Rattle.converge_laws.proofs.Step.{level_low}
use Rattle.fragment_check.specs.declared.kinds.Pattern.{Pattern}
use Rattle.fragment_check.specs.declared.kinds.Pattern.TheVariants as pattern

pub stage_less : (m : ℕ) (pt : Pattern) (base lag : ℕ) (rank : ℕ → ℕ) (i j n : ℕ) (o : Option LocalValue) (w : LocalValue) → i ≤ j → StageBy m pt base lag rank j n o w → StageBy m pt base lag rank i n o w
stage_less m pattern.Constant base lag rank i j n o w l h = tt
stage_less m (pattern.Acyclic q) base lag rank i j n o w l h = λ k a. h k (omega (arith, l, a))
stage_less m (pattern.Minimising top c) base lag rank i j n o w l h = λ k q s a. h k q s (omega (arith, l, a))
stage_less m (pattern.Rising top c r) base lag rank i j n o w l h = λ k q s a. h k q s (omega (arith, l, a))

pub stage_none : (m : ℕ) (pt : Pattern) (base lag : ℕ) (rank : ℕ → ℕ) (j n : ℕ) (o : Option LocalValue) (w : LocalValue) → j < base → StageBy m pt base lag rank j n o w
stage_none m pattern.Constant base lag rank j n o w l = tt
stage_none m (pattern.Acyclic q) base lag rank j n o w l = λ k a. absurd (omega (arith, l, a))
stage_none m (pattern.Minimising top c) base lag rank j n o w l = λ k q s a. absurd (omega (arith, l, a))
stage_none m (pattern.Rising top c r) base lag rank j n o w l = λ k q s a. absurd (omega (arith, l, a))

-- a stage of the kept values is one of what is heard, one level later
pub stage_later : (m : ℕ) (pt : Pattern) (base lag : ℕ) (rank : ℕ → ℕ) (j n : ℕ) (o : Option LocalValue) (w : LocalValue) → StageBy m pt base lag rank j n o w → StageBy m pt (suc base) lag rank (suc j) n o w
stage_later m pattern.Constant base lag rank j n o w h = tt
stage_later m (pattern.Acyclic q) base lag rank j n o w h = λ i l. h i (omega (arith, l))
stage_later m (pattern.Minimising top c) base lag rank j n o w h = λ i q s l. h i q s (omega (arith, l))
stage_later m (pattern.Rising top c r) base lag rank j n o w h = λ i q s l. h i q s (omega (arith, l))

module _ (A : Analysis) (N : Network) (j : ℕ) where
  mutual
    pub holds_less : (i : ℕ) → i ≤ j → (t : Term) (p b : ℕ) (st : Stage) (lv : Lvs) (D : Devices) (V : ValueMaps) (F : ValueMap) (s : Solves N p t D V F) (n : ℕ) (T : Tree) → Holds A N j p b st lv t D V F s n T → Holds A N i p b st lv t D V F s n T
    holds_less i l (Plain t k) p b st lv D V F s n T h = tt
    holds_less i l (Apply t o xs) p b st lv D V F s n T h = all_less i l xs (suc p) 0 b st lv D V s.1 s.2 n T h
    holds_less i l (Nbr t a) p b st lv D V F s n T h = (
      (λ o k. h.0 o (omega (arith, k, l))),
      (λ o. stage_less N.declared.ceiling st.pattern (suc st.base) st.lag st.rank i j n (kept_of T) (s.1 n) l (h.1 o)),
      holds_less i l a (suc p) b st lv D V (local_map s.1) s.2 n (child 0 T) h.2,
    )
    holds_less i l (Evolve t e a u) p b st lv D V F s n T h =
        let y = stage_of A N p b lv e a u D V in (
          (λ k. h.0 (omega (arith, k, l))),
          stage_less N.declared.ceiling y.pattern y.base y.lag y.rank i j n (kept_of T) (s.1 n) l h.1,
          holds_less i l u (suc p + size a) b y lv D (bind p (evolved e N D s.1) V) (local_map s.1) s.2 n (child 1 T) h.2,
        )
    holds_less i l (If t c u w) p b st lv D V F s n T h =
        let k = level_of A.stages (suc p) b st.var lv c in (
          (λ m. h.0 (omega (arith, m, l))),
          holds_less i l c (suc p) b st lv D V (local_map (λ d. BoolValue (s.1 d))) s.2 n (child 0 T) h.1,
          (λ m e. holds_less i l u (suc p + size c) k st lv (where_is true D s.1) V F s.3 n (child 1 T) (h.2 (omega (arith, m, l)) e)),
          (λ m e. holds_less i l w (suc p + size c + size u) k st lv (where_is false D s.1) V F s.4 n (child 1 T) (h.3 (omega (arith, m, l)) e)),
        )
    holds_less i l (Let t a u) p b st lv D V F s n T h = (
      holds_less i l a (suc p) b st lv D V s.1 s.2 n (child 0 T) h.0,
      holds_less i l u (suc p + size a) b st (bind_level p (level_of A.stages (suc p) b st.var lv a) lv) D (bind p s.1 V) F s.3 n (child 1 T) h.1,
    )

    pub all_less : (i : ℕ) → i ≤ j → (xs : Terms) (p k b : ℕ) (st : Stage) (lv : Lvs) (D : Devices) (V : ValueMaps) (Gs : List ValueMap) (s : SolveAll N p xs D V Gs) (n : ℕ) (T : Tree) → HoldAll A N j p k b st lv xs D V Gs s n T → HoldAll A N i p k b st lv xs D V Gs s n T
    all_less i l NoMore p k b st lv D V Gs s n T h = tt
    all_less i l (More x xs) p k b st lv D V [] s n T h = absurd h
    all_less i l (More x xs) p k b st lv D V (G ∷ Gs) s n T h = (holds_less i l x p b st lv D V G s.0 n (child k T) h.0, all_less i l xs (p + size x) (suc k) b st lv D V Gs s.1 n T h.1)

  mutual
    pub holds_none : (t : Term) (p b : ℕ) (st : Stage) (lv : Lvs) (D : Devices) (V : ValueMaps) (F : ValueMap) (s : Solves N p t D V F) (n : ℕ) (T : Tree) → j < b → b ≤ st.base → Holds A N j p b st lv t D V F s n T
    holds_none (Plain t k) p b st lv D V F s n T l m = tt
    holds_none (Apply t o xs) p b st lv D V F s n T l m = all_none xs (suc p) 0 b st lv D V s.1 s.2 n T l m
    holds_none (Nbr t a) p b st lv D V F s n T l m =
        let low = level_low A.stages (suc p) b st.var lv a in (
          (λ o k. absurd (omega (arith, k, l, low))),
          (λ o. stage_none N.declared.ceiling st.pattern (suc st.base) st.lag st.rank j n (kept_of T) (s.1 n) (omega (arith, l, m))),
          holds_none a (suc p) b st lv D V (local_map s.1) s.2 n (child 0 T) l m,
        )
    holds_none (Evolve t e a u) p b st lv D V F s n T l m =
        let y = stage_of A N p b lv e a u D V in
        let low = level_low A.stages (suc p + size a) b p lv u in (
          (λ k. absurd (omega (arith, k, l, low))),
          stage_none N.declared.ceiling y.pattern y.base y.lag y.rank j n (kept_of T) (s.1 n) (omega (arith, l, low)),
          holds_none u (suc p + size a) b y lv D (bind p (evolved e N D s.1) V) (local_map s.1) s.2 n (child 1 T) l low,
        )
    holds_none (If t c u w) p b st lv D V F s n T l m =
        let low = level_low A.stages (suc p) b st.var lv c in (
          (λ k. absurd (omega (arith, k, l, low))),
          holds_none c (suc p) b st lv D V (local_map (λ d. BoolValue (s.1 d))) s.2 n (child 0 T) l m,
          (λ k e. absurd (omega (arith, k, l, low))),
          (λ k e. absurd (omega (arith, k, l, low))),
        )
    holds_none (Let t a u) p b st lv D V F s n T l m = (
      holds_none a (suc p) b st lv D V s.1 s.2 n (child 0 T) l m,
      holds_none u (suc p + size a) b st (bind_level p (level_of A.stages (suc p) b st.var lv a) lv) D (bind p s.1 V) F s.3 n (child 1 T) l m,
    )

    pub all_none : (xs : Terms) (p k b : ℕ) (st : Stage) (lv : Lvs) (D : Devices) (V : ValueMaps) (Gs : List ValueMap) (s : SolveAll N p xs D V Gs) (n : ℕ) (T : Tree) → j < b → b ≤ st.base → HoldAll A N j p k b st lv xs D V Gs s n T
    all_none NoMore p k b st lv D V Gs s n T l m = tt
    all_none (More x xs) p k b st lv D V [] s n T l m = absurd s
    all_none (More x xs) p k b st lv D V (G ∷ Gs) s n T l m = (holds_none x p b st lv D V G s.0 n (child k T) l m, all_none xs (p + size x) (suc k) b st lv D V Gs s.1 n T l m)
