-- Exports that are the same outside first values are at the same levels.
use Rattle.std.proofs.Common.{◌≡◌, ℕ, suc, ◌+◌, List, [], ◌∷◌, refl, sym, ◌∙◌, ap, subst, arith, true, false, Some}
use Rattle.fc_values.specs.Values.{LocalValue, BoolValue}
use Rattle.fc_values.specs.Exports.{SlotValue, slot_at}
use Rattle.fc_values.specs.Trees.{Tree, child, nth_tree}
use Rattle.fc_nodes.specs.Terms.{Term, Terms, Plain, Apply, Nbr, Evolve, If, Let, NoMore, More, size, kept}
use Rattle.fc_nodes.specs.Flat.{tree_at, trees_at, by_truth}
use Rattle.topology.specs.Networks.{Network}
use Rattle.interval_facts.specs.Solutions.{Devices, ValueMap, ValueMaps, bind, local_map, evolved, where_is, Solves, SolveAll}
use Rattle.fragment_check.specs.Levels.{Lvs, bind_level, level_of}
use Rattle.converge_laws.specs.Fragment.{Analysis}
use Rattle.converge_laws.specs.Stages.{Stage, HeardAt, KeptAt}
use Rattle.converge_laws.specs.Invariant.{stage_of, Holds, HoldAll}
use Rattle.stable_field.specs.Outside.{SameOutside, AllSameOutside}

from_zero : (m : ℕ) → 0 + m ≡ m
from_zero m = omega arith

module _ (A : Analysis) (N : Network) (j n : ℕ) (xs ys : List SlotValue) where
  keeps : (k : ℕ) → slot_at k xs ≡ slot_at k ys → Some (slot_at k ys).1 ≡ Some (slot_at k xs).1
  keeps k e = ap (λ (v : SlotValue). Some v.1) (sym e)

  mutual
    -- a tree whose slots outside first values are those of another holds where that does
    pub holds_same : (t : Term) (k p b : ℕ) (st : Stage) (lv : Lvs) (D : Devices) (V : ValueMaps) (F : ValueMap) (s : Solves N p t D V F) → SameOutside t k xs ys
        → Holds A N j p b st lv t D V F s n (tree_at t k ys) → Holds A N j p b st lv t D V F s n (tree_at t k xs)
    holds_same (Plain t l) k p b st lv D V F s o h = tt
    holds_same (Apply t op ts) k p b st lv D V F s o h =
        all_same ts k (suc p) 0 b st lv D V s.1 s.2 (tree_at (Apply t op ts) k xs) (tree_at (Apply t op ts) k ys)
        (λ m. ap (λ q. child q (tree_at (Apply t op ts) k xs)) (from_zero m)) (λ m. ap (λ q. child q (tree_at (Apply t op ts) k ys)) (from_zero m)) o h
    holds_same (Nbr t a) k p b st lv D V F s o h = (
      (λ u v. sym (keeps k o.0) ∙ h.0 u v),
      (λ u. subst (λ w. HeardAt N.declared.ceiling st j n w (s.1 n)) (keeps k o.0) (h.1 u)),
      holds_same a (suc k) (suc p) b st lv D V (local_map s.1) s.2 o.1 h.2,
    )
    holds_same (Evolve t e a u) k p b st lv D V F s o h =
        let y = stage_of A N p b lv e a u D V in (
          (λ v. sym (keeps k o.0) ∙ h.0 v),
          subst (λ w. KeptAt N.declared.ceiling y j n w (s.1 n)) (keeps k o.0) h.1,
          holds_same u (suc k + kept a) (suc p + size a) b y lv D (bind p (evolved e N D s.1) V) (local_map s.1) s.2 o.1 h.2,
        )
    holds_same (If t c u w) k p b st lv D V F s o h =
        let l = level_of A.stages (suc p) b st.var lv c in (
          (λ v. sym (keeps k o.0) ∙ h.0 v),
          holds_same c (suc k) (suc p) b st lv D V (local_map (λ d. BoolValue (s.1 d))) s.2 o.1 h.1,
          (λ v e.
              let z : (slot_at k ys).1 ≡ BoolValue true = some_same _ _ (h.0 v ∙ ap (λ q. Some (BoolValue q)) e) in
              let z' : (slot_at k xs).1 ≡ BoolValue true = ap (λ (q : SlotValue). q.1) o.0 ∙ z in
              subst (Holds A N j (suc p + size c) l st lv u (where_is true D s.1) V F s.3 n) (sym (taken _ _ _ _ z' refl))
              (holds_same u (suc k + kept c) (suc p + size c) l st lv (where_is true D s.1) V F s.3 o.2
              (subst (Holds A N j (suc p + size c) l st lv u (where_is true D s.1) V F s.3 n) (taken _ _ _ _ z refl) (h.2 v e)))),
          (λ v e.
              let z : (slot_at k ys).1 ≡ BoolValue false = some_same _ _ (h.0 v ∙ ap (λ q. Some (BoolValue q)) e) in
              let z' : (slot_at k xs).1 ≡ BoolValue false = ap (λ (q : SlotValue). q.1) o.0 ∙ z in
              subst (Holds A N j (suc p + size c + size u) l st lv w (where_is false D s.1) V F s.4 n) (sym (left _ _ _ _ z' refl))
              (holds_same w (suc k + kept c + kept u) (suc p + size c + size u) l st lv (where_is false D s.1) V F s.4 o.3
              (subst (Holds A N j (suc p + size c + size u) l st lv w (where_is false D s.1) V F s.4 n) (left _ _ _ _ z refl) (h.3 v e)))),
        )
      where
        some_same : (v w : LocalValue) → Some v ≡ Some w → v ≡ w
        some_same v w e = cc

        taken : (v : LocalValue) (x y z : Tree) → v ≡ BoolValue true → x ≡ z → by_truth v x y ≡ z
        taken v x y z e f = rw e f

        left : (v : LocalValue) (x y z : Tree) → v ≡ BoolValue false → y ≡ z → by_truth v x y ≡ z
        left v x y z e f = rw e f
    holds_same (Let t a u) k p b st lv D V F s o h = (
      holds_same a k (suc p) b st lv D V s.1 s.2 o.0 h.0,
      holds_same u (k + kept a) (suc p + size a) b st (bind_level p (level_of A.stages (suc p) b st.var lv a) lv) D (bind p s.1 V) F s.3 o.1 h.1,
    )

    all_same : (ts : Terms) (k p i b : ℕ) (st : Stage) (lv : Lvs) (D : Devices) (V : ValueMaps) (Gs : List ValueMap) (s : SolveAll N p ts D V Gs) (T T' : Tree)
        → ((m : ℕ) → child (i + m) T ≡ nth_tree m (trees_at ts k xs)) → ((m : ℕ) → child (i + m) T' ≡ nth_tree m (trees_at ts k ys))
        → AllSameOutside ts k xs ys → HoldAll A N j p i b st lv ts D V Gs s n T' → HoldAll A N j p i b st lv ts D V Gs s n T
    all_same NoMore k p i b st lv D V Gs s T T' f f' o h = tt
    all_same (More x ts) k p i b st lv D V [] s T T' f f' o h = absurd s
    all_same (More x ts) k p i b st lv D V (G ∷ Gs) s T T' f f' o h =
        let z : i + 0 ≡ i = omega arith in (
          subst (Holds A N j p b st lv x D V G s.0 n) (sym (f 0) ∙ ap (λ m. child m T) z)
              (holds_same x k p b st lv D V G s.0 o.0 (subst (Holds A N j p b st lv x D V G s.0 n) (ap (λ m. child m T') (sym z) ∙ f' 0) h.0)),
          all_same ts (k + kept x) (p + size x) (suc i) b st lv D V Gs s.1 T T'
              (λ m. ap (λ q. child q T) (omega arith) ∙ f (suc m)) (λ m. ap (λ q. child q T') (omega arith) ∙ f' (suc m)) o.1 h.1,
        )
