-- A firing at the body of a `rep` or `share`: its value beside that of the solution.
use Rattle.std.proofs.Common.{◌≡◌, ℕ, suc, ◌≤◌, ◌+◌, List, [], ◌∷◌, map, refl, sym, ◌∙◌, ap, subst, arith, Bool, true, false, Option, Some, None, nat_eq}
use Rattle.std.proofs.lemmas.Bool.Decides.{nat_tests}
use Rattle.fc_values.specs.declared.builtins.Builtin.{Builtin}
use Rattle.fc_values.specs.Types.{LocalType, ValueType, TypeField}
use Rattle.fc_values.specs.BuiltinTypes.{inner, HasRule}
use Rattle.fc_nodes.specs.Typing.{types_of}
use Rattle.fc_values.specs.Values.{LocalValue, Fits}
use Rattle.fc_values.specs.Fields.{Entries, AnyValue, ValueLocal, devices, AllFit, FitsOver, with_number, restricted}
use Rattle.fc_values.specs.Trees.{Tree, Trees, Keep, kept_of}
use Rattle.fc_nodes.specs.Terms.{Leaf, Literal, Variable, Sense, Uid, NbrLink, Evolution, ByRep, ByShare, Term, Terms, Plain, Apply, Nbr, Evolve, If, Let, NoMore, More, size, sizes}
use Rattle.alignment.specs.Environments.{NearTree, Env, child_env, near_numbers as tree_numbers}
use Rattle.device_eval.specs.Neighbours.{kept_there, entry_before}
use Rattle.alignment.specs.Scopes.{Vars, variable_at}
use Rattle.device_eval.specs.Rules.{Evaluates, EvaluateAll, variable, builtin, nbr, none, one_more}
use Rattle.alignment.proofs.Entries.{devices_with}
use Rattle.device_eval.proofs.Sights.{kids_from, first_kid, rest_kids, fit_with, restricted_fits}
use Rattle.fc_nodes.specs.Flat.{KeepsWith, FitsTree, FitTrees}
use Rattle.topology.specs.Networks.{Network, near, IsNetwork}
use Rattle.interval_facts.specs.Solutions.{Devices, In, ValueMap, ValueMaps, near_among, around, at_device, Solves, SolveAll}
use Rattle.fc_nodes.specs.Variables.{occurs, occurs_in, is_variable, is_heard}
use Rattle.fragment_check.specs.Levels.{Lvs, level_of, level_all}
use Rattle.converge_laws.specs.Fragment.{Analysis}
use Rattle.converge_laws.specs.Stages.{Stage, HeardAt}
use Rattle.converge_laws.specs.Invariant.{Holds, HoldAll}
use Rattle.interval_facts.specs.Claims.{InRanges}
use Rattle.converge_laws.proofs.Near.{NearAre, near_kid, near_as, own_kid, own_as, restricted_is, AllSet, all_set}
use Rattle.converge_laws.proofs.Given.{situation_at, Given, StepOf, GivenAll}
use Rattle.converge_laws.proofs.Step.{or_left, or_right, kid_is, all_given}
use Rattle.growth_facts.specs.Beside.{Pairs, FieldPair, Beside, apart, heard, joined, BesideAll, no_more, Shallow, AllShallow}
use Rattle.growth_facts.proofs.FieldPairs.{pairs_with, field_cut}
use Rattle.converge_laws.proofs.Around.{heard_in}
use Rattle.device_eval.specs.Conditions.{VariableFits}
use Rattle.topology.specs.Nearby.{neighbour_numbers}
use Rattle.growth_facts.specs.Beside as beside

-- what the neighbours keep, entry by entry
pub kept_pairs : (P : ℕ → LocalValue → LocalValue → Type 0) (g : ℕ → LocalValue) (D : Devices) (Q : ℕ → Option LocalValue → Type 0) → ((n : ℕ) (v : LocalValue) → In D n → Q n (Some v) → P n v (g n))
    → (ms : List (ℕ × ℕ)) (ns : List NearTree) (es : Entries) → AllSet D ms → NearAre (λ n t. Q n (kept_of t)) ms ns → kept_there ns ≡ Some es → Pairs P es (map (λ (m : ℕ × ℕ). (m.0, g m.0)) ms)
kept_pairs P g D Q f [] [] es a h e = let e' : [] ≡ es = cc in subst (λ x. Pairs P x []) e' tt
kept_pairs P g D Q f [] (n ∷ ns) es a h e = absurd h
kept_pairs P g D Q f (m ∷ ms) [] es a h e = absurd h
kept_pairs P g D Q f (m ∷ ms) (n ∷ ns) es a h e = one (kept_of n.2) (kept_there ns) refl refl h.2 e (λ fs q. kept_pairs P g D Q f ms ns fs a.1 h.3 q)
  where
    one : (o : Option LocalValue) (r : Option Entries) → kept_of n.2 ≡ o → kept_there ns ≡ r → Q m.0 (kept_of n.2) → entry_before n.0 o r ≡ Some es
        → ((fs : Entries) → kept_there ns ≡ Some fs → Pairs P fs (map (λ (k : ℕ × ℕ). (k.0, g k.0)) ms)) → Pairs P es (map (λ (k : ℕ × ℕ). (k.0, g k.0)) (m ∷ ms))
    one None r k q u e ih = absurd cc
    one (Some v) None k q u e ih = absurd cc
    one (Some v) (Some fs) k q u e ih =
        let e' : (n.0, v) ∷ fs ≡ es = cc in
        let v' : P n.0 v (g m.0) = subst (λ i. P i v (g m.0)) (sym h.0) (f m.0 v a.0 (subst (Q m.0) k u)) in
        subst (λ x. Pairs P x (map (λ (k : ℕ × ℕ). (k.0, g k.0)) (m ∷ ms))) e' (h.0, v', ih fs q)

-- and it fits
pub kept_over : (m : ℕ) (s : LocalType) (ms : List (ℕ × ℕ)) (ns : List NearTree) (es : Entries) → NearAre (λ n t. (v : LocalValue) → kept_of t ≡ Some v → Fits m s v) ms ns → kept_there ns ≡ Some es → (devices es ≡ neighbour_numbers ms) × AllFit m s es
kept_over m s [] [] es h e = let e' : [] ≡ es = cc in subst (λ x. (devices x ≡ []) × AllFit m s x) e' (refl, tt)
kept_over m s [] (n ∷ ns) es h e = absurd h
kept_over m s (k ∷ ms) [] es h e = absurd h
kept_over m s (k ∷ ms) (n ∷ ns) es h e = one (kept_of n.2) (kept_there ns) refl refl e (λ fs q. kept_over m s ms ns fs h.3 q)
  where
    one : (o : Option LocalValue) (r : Option Entries) → kept_of n.2 ≡ o → kept_there ns ≡ r → entry_before n.0 o r ≡ Some es → ((fs : Entries) → kept_there ns ≡ Some fs → (devices fs ≡ neighbour_numbers ms) × AllFit m s fs) → (devices es ≡ neighbour_numbers (k ∷ ms)) × AllFit m s es
    one None r q z e ih = absurd cc
    one (Some v) None q z e ih = absurd cc
    one (Some v) (Some fs) q z e ih =
        let e' : (n.0, v) ∷ fs ≡ es = cc in
        let rest = ih fs z in
        let first = h.0 in
        let over = rest.0 in
        subst (λ x. (devices x ≡ neighbour_numbers (k ∷ ms)) × AllFit m s x) e' (rw (first, over) refl, (h.2 v q, rest.1))

pub keeps_fit : (m : ℕ) (s : LocalType) (Q : Trees → Type 0) (T : Tree) (v : LocalValue) → KeepsWith (Fits m s) Q T → kept_of T ≡ Some v → Fits m s v
keeps_fit m s Q (Keep None ts) v h e = absurd h
keeps_fit m s Q (Keep (Some w) ts) v h e = let q : w ≡ v = cc in subst (Fits m s) q h.0

pub variable_value : (N : Network) (d : ℕ) (p q : ℕ) (t : ValueType) (vars : Vars) (env : Env) (v w : AnyValue) (tree : Tree) → Evaluates (situation_at N d) p (Plain t (Variable q)) vars env v tree → variable_at q vars ≡ Some w → v ≡ restricted d (tree_numbers env.near) w
variable_value N d p q t vars env v w tree (variable t' q' w' e) e' = let same : w' ≡ w = cc in ap (restricted d (tree_numbers env.near)) same

module _ (A : Analysis) (N : Network) (d j b : ℕ) (st : Stage) (P : ℕ → LocalValue → LocalValue → Type 0) (D : Devices) (V : ValueMaps) (f : ℕ → LocalValue) (vars : Vars) (ty : LocalType) where
  -- what a firing of d has of the variable: in a `rep` its own last result, in a `share` that and what the others keep
  abbrev pub Hears : Evolution → Type 0
  Hears ByRep = (x : LocalValue) × (variable_at st.var vars ≡ Some (ValueLocal x)) × ((n : ℕ) → V st.var n ≡ ValueLocal (f n)) × (b ≤ j → P d x (f d) × Fits N.declared.ceiling ty x)
      × HeardAt N.declared.ceiling st (suc j) d (Some x) (f d) × ((n : ℕ) (v : LocalValue) → Fits N.declared.ceiling ty v → HeardAt N.declared.ceiling st j n (Some v) (f n) → P n v (f n))
  Hears ByShare = (v : AnyValue) × (variable_at st.var vars ≡ Some v) × (b ≤ j → FieldPair P v (V st.var d) × VariableFits N.declared.ceiling d (heard_in N D d) (TypeField ty) v)

module _ (A : Analysis) (N : Network) (d j b : ℕ) (st : Stage) (lv : Lvs) (e : Evolution) (P : ℕ → LocalValue → LocalValue → Type 0) (Part : ℕ → Term → AnyValue → Type 0) (D : Devices) (V : ValueMaps) (f : ℕ → LocalValue) (vars : Vars) (ty : LocalType) (net : IsNetwork N)
    (deep : suc b ≤ st.base) (hears : Hears A N d j b st P D V f vars ty e) (parts : (p : ℕ) (h : Term) (G : ValueMap) (z : Solves N p h D V G) → InRanges A.ranges N p h D V G z → Part p h (G d)) where
  abbrev pub M : ℕ
  M = N.declared.ceiling

  pub record Seen (p : ℕ) (t : Term) (F : ValueMap) (s : Solves N p t D V F) (v : AnyValue) (tree : Tree) : Type 0 where
    pub beside : st.base ≤ suc j → Beside M d (around N D d) e st.var (FieldPair P) Part p t v (F d)
    pub holds : Holds A N (suc j) p b st lv t D V F s d tree

  abbrev pub SeenOf : Term → Type 0
  SeenOf t = (p : ℕ) (F : ValueMap) (s : Solves N p t D V F) (env : Env) (v : AnyValue) (tree : Tree) → Shallow e st.var ty t → level_of A.stages p b st.var lv t ≤ st.base
      → Given A N d j p b st lv t D V F s vars env → Evaluates (situation_at N d) p t vars env v tree → Seen p t F s v tree

  pub record SeenAll (p i : ℕ) (xs : Terms) (Gs : List ValueMap) (s : SolveAll N p xs D V Gs) (vs : List AnyValue) (ts : Trees) : Type 0 where
    pub beside : st.base ≤ suc j → BesideAll M d (around N D d) e st.var (FieldPair P) Part p xs vs (at_device d Gs)
    pub holds : (T : Tree) → kids_from i T ≡ ts → HoldAll A N (suc j) p i b st lv xs D V Gs s d T

  -- a part without the variable
  apart_seen : (t : Term) → StepOf A N d j t → occurs st.var t ≡ false → SeenOf t
  apart_seen t step cl p F s env v tree sh l g h =
      let r = step p b st lv D V F s vars env v tree cl g h in
      record { beside = λ k. apart p t cl (r.value (omega (arith, l, k))) (parts p t F s g.ranges); holds = r.holds }

  share_heard : (t : ValueType) (q p : ℕ) (F : ValueMap) (s : Solves N p (Plain t (Variable q)) D V F) (env : Env) (v : AnyValue) (tree : Tree) → nat_eq q st.var ≡ true → (w : AnyValue) → variable_at st.var vars ≡ Some w → (b ≤ j → FieldPair P w (V st.var d) × VariableFits M d (heard_in N D d) (TypeField ty) w) → t ≡ TypeField ty
      → Given A N d j p b st lv (Plain t (Variable q)) D V F s vars env → Evaluates (situation_at N d) p (Plain t (Variable q)) vars env v tree → st.base ≤ suc j → FieldPair P v (F d) × FitsOver M (around N D d) t v
  share_heard t q p F s env v tree i w e' k et g h l =
      let z : q ≡ st.var = grind (arith, i, nat_tests) in
      let is = variable_value N d p q t vars env v w tree h (ap (λ x. variable_at x vars) z ∙ e') in
      let cut = restricted_is _ d (near_among N D d) env.near w (g.near (omega (arith, l, deep))) in
      let sol = s.1 d g.inside in
      let k' : FieldPair P (restricted d (neighbour_numbers (near_among N D d)) w) (restricted d (neighbour_numbers (near_among N D d)) (V q d)) = field_cut P d (neighbour_numbers (near_among N D d)) w (V q d) (subst (λ x. FieldPair P w (V x d)) (sym z) (k (omega (arith, l, deep))).0) in
      let fit = restricted_fits d (heard_in N D d) M (TypeField ty) w (k (omega (arith, l, deep))).1 in
      (rw (is, cut, sol) k', rw (is, cut, et) fit)

  rep_heard : (t t' : ValueType) (q p : ℕ) (F : ValueMap) (s : Solves N p (Nbr t (Plain t' (Variable q))) D V F) (env : Env) (v : AnyValue) (tree : Tree) → nat_eq q st.var ≡ true → t ≡ TypeField ty → Hears A N d j b st P D V f vars ty ByRep
      → Given A N d j p b st lv (Nbr t (Plain t' (Variable q))) D V F s vars env → Evaluates (situation_at N d) p (Nbr t (Plain t' (Variable q))) vars env v tree
      → (st.base ≤ suc j → FieldPair P v (F d) × FitsOver M (around N D d) t v) × Holds A N (suc j) p b st lv (Nbr t (Plain t' (Variable q))) D V F s d tree
  rep_heard t t' q p F s env v tree i et k g (nbr t0 a0 x ta es ea e') = (
    (λ l.
        let there = g.near (omega (arith, l, deep)) in
        let own = k.3 (omega (arith, l, deep)) in
        let fits = near_as _ (λ n T. (y : LocalValue) → kept_of T ≡ Some y → Fits M ty y) (λ n T h y u. let z = keeps_fit M (inner t) _ T y h.0 u in rw et at z) (near_among N D d) env.near there in
        let over = kept_over M ty (near_among N D d) env.near es fits e' in
        let others = kept_pairs P s.1 D (λ n o. HeardAt M st j n o (s.1 n) × ((y : LocalValue) → o ≡ Some y → Fits M ty y)) (λ n y u h. let q' = solution n u in subst (λ (z : LocalValue). P n y z) (sym q') (k.5 n y (h.1 y refl) (subst (λ z. HeardAt M st j n (Some y) z) q' h.0)))
        (near_among N D d) env.near es (all_set D (near N d)) (near_as _ _ (λ n T h. (h.1.1 i, λ y u. let z = keeps_fit M (inner t) _ T y h.0 u in rw et at z)) (near_among N D d) env.near there) e' in
        let here : P d x (s.1 d) = rw (same, solution d g.inside) own.0 in
        let fx : Fits M ty x = rw same own.1 in (
          rw (s.3 d g.inside) (pairs_with P d x (s.1 d) es (map (λ (m : ℕ × ℕ). (m.0, s.1 m.0)) (near_among N D d)) here others),
          rw et (devices_with d x es ∙ ap (with_number d) over.0, fit_with M ty d x es fx over.1),
        )),
    ((λ o l. absurd (no_own i o)), (λ o. rw (same, solution d g.inside) k.4), tt),
  )
    where
      z : q ≡ st.var
      z = grind (arith, i, nat_tests)

      no_own : nat_eq q st.var ≡ true → nat_eq q st.var ≡ false → ⊥
      no_own e e' = absurd cc

      solution : (n : ℕ) → In D n → s.1 n ≡ f n
      solution n u = let e = s.2.1 n u in let e' : V q n ≡ ValueLocal (f n) = ap (λ y. V y n) z ∙ k.2 n in let e'' : ValueLocal (s.1 n) ≡ ValueLocal (f n) = e ∙ ap (restricted n (neighbour_numbers (near_among N D n))) e' in cc

      same : x ≡ k.0
      same = let e = variable_value N d (suc p) q t' vars (child_env 0 env) (ValueLocal x) (ValueLocal k.0) ta ea (ap (λ y. variable_at y vars) z ∙ k.1) in cc

  -- by whether the variable occurs
  by_use : (t : Term) (p : ℕ) (F : ValueMap) (s : Solves N p t D V F) (env : Env) (v : AnyValue) (tree : Tree) → StepOf A N d j t → Shallow e st.var ty t → level_of A.stages p b st.var lv t ≤ st.base
      → Given A N d j p b st lv t D V F s vars env → Evaluates (situation_at N d) p t vars env v tree → (c : Bool) → occurs st.var t ≡ c → (occurs st.var t ≡ true → Seen p t F s v tree) → Seen p t F s v tree
  by_use t p F s env v tree step sh l g h false o k = apart_seen t step o p F s env v tree sh l g h
  by_use t p F s env v tree step sh l g h true o k = k o

  not_both : {X : Type 0} (c : Bool) → c ≡ true → c ≡ false → X
  not_both c e e' = absurd cc

  plain_seen : (ev : Evolution) → ev ≡ e → (t : ValueType) (l : Leaf) (p : ℕ) (F : ValueMap) (s : Solves N p (Plain t l) D V F) (env : Env) (v : AnyValue) (tree : Tree) → Given A N d j p b st lv (Plain t l) D V F s vars env
      → Evaluates (situation_at N d) p (Plain t l) vars env v tree → is_variable st.var l ≡ true → is_heard ev st.var (Plain t l) ≡ true → t ≡ TypeField ty → Hears A N d j b st P D V f vars ty ev → Seen p (Plain t l) F s v tree
  plain_seen ByRep q t l p F s env v tree g h i hd et k = absurd cc
  plain_seen ByShare q t (Variable n) p F s env v tree g h i hd et k =
      record { beside = λ m. heard p (Plain t (Variable n)) (subst (λ x. is_heard x st.var (Plain t (Variable n)) ≡ true) q hd) (share_heard t n p F s env v tree i k.0 k.1 k.2 et g h m).0 (share_heard t n p F s env v tree i k.0 k.1 k.2 et g h m).1 (s.0 d g.inside); holds = tt }
  plain_seen ByShare q t (Literal w) p F s env v tree g h i hd et k = absurd cc
  plain_seen ByShare q t (Sense n) p F s env v tree g h i hd et k = absurd cc
  plain_seen ByShare q t Uid p F s env v tree g h i hd et k = absurd cc
  plain_seen ByShare q t NbrLink p F s env v tree g h i hd et k = absurd cc

  nbr_seen : (ev : Evolution) → ev ≡ e → (t : ValueType) (a : Term) (p : ℕ) (F : ValueMap) (s : Solves N p (Nbr t a) D V F) (env : Env) (v : AnyValue) (tree : Tree) → Given A N d j p b st lv (Nbr t a) D V F s vars env
      → Evaluates (situation_at N d) p (Nbr t a) vars env v tree → is_heard ev st.var (Nbr t a) ≡ true → t ≡ TypeField ty → Hears A N d j b st P D V f vars ty ev → Seen p (Nbr t a) F s v tree
  nbr_seen ByShare q t a p F s env v tree g h hd et k = absurd cc
  nbr_seen ByRep q t (Plain t' (Variable n)) p F s env v tree g h hd et k =
      let r = rep_heard t t' n p F s env v tree hd et k g h in
      record { beside = λ m. heard p (Nbr t (Plain t' (Variable n))) (subst (λ x. is_heard x st.var (Nbr t (Plain t' (Variable n))) ≡ true) q hd) (r.0 m).0 (r.0 m).1 (s.0 d g.inside); holds = r.1 }
  nbr_seen ByRep q t (Plain t' (Literal w)) p F s env v tree g h hd et k = absurd cc
  nbr_seen ByRep q t (Plain t' (Sense n)) p F s env v tree g h hd et k = absurd cc
  nbr_seen ByRep q t (Plain t' Uid) p F s env v tree g h hd et k = absurd cc
  nbr_seen ByRep q t (Plain t' NbrLink) p F s env v tree g h hd et k = absurd cc
  nbr_seen ByRep q t (Apply t' o xs) p F s env v tree g h hd et k = absurd cc
  nbr_seen ByRep q t (Nbr t' a) p F s env v tree g h hd et k = absurd cc
  nbr_seen ByRep q t (Evolve t' x a u) p F s env v tree g h hd et k = absurd cc
  nbr_seen ByRep q t (If t' c u w) p F s env v tree g h hd et k = absurd cc
  nbr_seen ByRep q t (Let t' a u) p F s env v tree g h hd et k = absurd cc

  apply_seen : (t : ValueType) (o : Builtin) (xs : Terms) (p : ℕ) (F : ValueMap) (s : Solves N p (Apply t o xs) D V F) (env : Env) (v : AnyValue) (tree : Tree) → HasRule o (types_of xs) t → In D d → Evaluates (situation_at N d) p (Apply t o xs) vars env v tree → occurs_in st.var xs ≡ true
      → ((vs : List AnyValue) (ts : Trees) → EvaluateAll (situation_at N d) (suc p) 0 xs vars env vs ts → SeenAll (suc p) 0 xs s.1 s.2 vs ts) → Seen p (Apply t o xs) F s v tree
  apply_seen t o xs p F s env v tree rule i (builtin t' o' xs' vs ts w es q) u k =
      let r = k vs ts es in
      record { beside = λ l. joined p t o xs vs (at_device d s.1) rule u (r.beside l) q (s.3 d i); holds = r.holds (Keep None ts) refl }

  mutual
    pub seen : (t : Term) → ((r : Term) → size r ≤ size t → StepOf A N d j r) → SeenOf t
    seen (Plain t l) step p F s env v tree sh m g h =
        by_use (Plain t l) p F s env v tree (step (Plain t l) (omega arith)) sh m g h (is_variable st.var l) refl (λ i. plain_seen e refl t l p F s env v tree g h i (sh i).0 (sh i).1 hears)
    seen (Nbr t a) step p F s env v tree sh m g h =
        by_use (Nbr t a) p F s env v tree (step (Nbr t a) (omega arith)) sh m g h (occurs st.var a) refl (λ i. nbr_seen e refl t a p F s env v tree g h (sh i).0 (sh i).1 hears)
    seen (Apply t o xs) step p F s env v tree sh m g h =
        by_use (Apply t o xs) p F s env v tree (step (Apply t o xs) (omega arith)) sh m g h (occurs_in st.var xs) refl (λ u.
        apply_seen t o xs p F s env v tree sh.0 g.inside h u (λ vs ts es.
        seen_all xs (λ r l. step r (omega (arith, l))) (suc p) 0 s.1 s.2 env vs ts sh.1 m (all_given A N d j t o xs p b st lv D V F s vars env g) es))
    seen (Evolve t f' a u) step p F s env v tree sh m g h = apart_seen (Evolve t f' a u) (step (Evolve t f' a u) (omega arith)) sh p F s env v tree sh m g h
    seen (If t c u w) step p F s env v tree sh m g h = apart_seen (If t c u w) (step (If t c u w) (omega arith)) sh p F s env v tree sh m g h
    seen (Let t a u) step p F s env v tree sh m g h = apart_seen (Let t a u) (step (Let t a u) (omega arith)) sh p F s env v tree sh m g h

    pub seen_all : (xs : Terms) → ((r : Term) → size r ≤ sizes xs → StepOf A N d j r) → (p i : ℕ) (Gs : List ValueMap) (s : SolveAll N p xs D V Gs) (env : Env) (vs : List AnyValue) (ts : Trees) → AllShallow e st.var ty xs
        → level_all A.stages p b st.var lv xs ≤ st.base → GivenAll A N d j p i b st lv xs D V Gs s vars env → EvaluateAll (situation_at N d) p i xs vars env vs ts → SeenAll p i xs Gs s vs ts
    seen_all NoMore step p i [] s env vs ts sh m g none = record { beside = λ l. no_more p; holds = λ T k. tt }
    seen_all NoMore step p i (G ∷ Gs) s env vs ts sh m g h = absurd s
    seen_all (More x xs) step p i [] s env vs ts sh m g h = absurd s
    seen_all (More x xs) step p i (G ∷ Gs) s env vs ts sh m g (one_more x' xs' v vs' t ts' h hs) =
        let first = seen x (λ r l. step r (omega (arith, l))) p G s.0 (child_env i env) v t sh.0 (omega (arith, m)) (record {
          frag = g.frag.0;
          ranges = g.ranges.0;
          inside = g.inside;
          alive = g.alive;
          low = g.low;
          own = λ l. own_kid _ _ i (λ T h. (first_kid (FitsTree M x) (FitTrees M xs) i T h.0, h.1.0)) env.own (g.own l);
          near = λ l. near_kid _ _ i (λ n T h. (first_kid (FitsTree M x) (FitTrees M xs) i T h.0, h.1.0)) (near_among N D d) env.near (g.near l);
          binders = λ q u. g.binders q (or_left (occurs q x) (occurs_in q xs) u);
        }) h in
        let rest = seen_all xs (λ r l. step r (omega (arith, l))) (p + size x) (suc i) Gs s.1 env vs' ts' sh.1 (omega (arith, m)) (record {
          frag = g.frag.1;
          ranges = g.ranges.1;
          inside = g.inside;
          alive = g.alive;
          low = g.low;
          own = λ l. own_as _ _ (λ T h. (rest_kids (FitsTree M x) (FitTrees M xs) i T h.0, h.1.1)) env.own (g.own l);
          near = λ l. near_as _ _ (λ n T h. (rest_kids (FitsTree M x) (FitTrees M xs) i T h.0, h.1.1)) (near_among N D d) env.near (g.near l);
          binders = λ q u. g.binders q (or_right (occurs q x) (occurs_in q xs) u);
        }) hs in
        record {
          beside = λ l. beside.one_more p x xs v (G d) vs' (at_device d Gs) (first.beside l) (rest.beside l);
          holds = λ T k. let kid = kid_is i T t ts' k in (subst (λ u. Holds A N (suc j) p b st lv x D V G s.0 d u) (sym kid.0) first.holds, rest.holds T kid.1);
        }
