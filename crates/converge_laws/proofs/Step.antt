-- A firing of a copy at level j gives an export at level j + 1, node by node.
use Rattle.std.proofs.Common.{◌≡◌, ◌≢◌, ℕ, zero, suc, ◌≤◌, ◌+◌, List, [], ◌∷◌, map, refl, sym, ◌∙◌, ap, subst, arith, Bool, true, false, ◌||◌, Some, None, nat_eq, max}
use Rattle.std.proofs.lemmas.Bool.Decides.{nat_tests}
use Rattle.std.specs.Prelude.{if◌then◌else◌}
use Rattle.fc_values.specs.declared.builtins.Builtin.{Builtin}
use Rattle.fc_values.specs.Types.{LocalType, ValueType, TypeLocal, TypeField}
use Rattle.fc_values.specs.Builtins.{builtin_value}
use Rattle.fc_values.specs.Values.{BoolValue, Fits}
use Rattle.fc_values.specs.BuiltinTypes.{inner, is_field}
use Rattle.fc_values.specs.Fields.{AnyValue, ValueLocal, ValueField, FitsOver, restricted}
use Rattle.fc_values.specs.Trees.{Tree, Trees, Keep, Done, Then, kept_of, child, nth_tree}
use Rattle.device_eval.proofs.Sights.{kids_from, trees_from, first_kid, rest_kids}
use Rattle.fc_nodes.specs.Terms.{Leaf, Literal, Variable, Sense, Uid, NbrLink, Term, Terms, Plain, Apply, Nbr, Evolve, If, Let, NoMore, More, size, sizes}
use Rattle.fc_nodes.specs.Flat.{FitsTree, FitTrees}
use Rattle.device_eval.proofs.Progress.{one_first, plain_first, plain_second, truth_first, truth_taken, truth_other, apply_kids}
use Rattle.alignment.specs.Environments.{Env, child_env, branch_env, keeps_truth, near_numbers as tree_numbers}
use Rattle.alignment.specs.Scopes.{Vars, variable_at}
use Rattle.device_eval.specs.Rules.{literal, variable, sense, uid, nbr_link, builtin, nbr, if_true, if_false, binding, none, one_more}
use Rattle.topology.specs.Networks.{Network, near}
use Rattle.interval_facts.specs.Solutions.{Devices, In, ValueMap, ValueMaps, bind, near_among, around, where_is, local_map, Solves}
use Rattle.fc_nodes.specs.Variables.{occurs, occurs_in, is_own}
use Rattle.fragment_check.specs.Levels.{Lvs, bind_level, leaf_level, reads_level, level_of, level_all}
use Rattle.converge_laws.specs.Fragment.{Analysis}
use Rattle.converge_laws.specs.Stages.{Stage}
use Rattle.converge_laws.specs.Invariant.{Holds}
use Rattle.converge_laws.proofs.Near.{NearAre, OwnIs, near_kid, near_as, own_kid, own_as, kept_are, weights_are, restricted_is, is_same, Truth, OnBranch, near_branch, own_branch}
use Rattle.converge_laws.proofs.Given.{Here, Given, StepOf, GivenAll, StepAll}
use Rattle.topology.specs.Nearby.{neighbour_numbers}

leaf_low : (b x : ℕ) (lv : Lvs) (t : ValueType) (l : Leaf) → b ≤ leaf_level b x lv t l
leaf_low b x lv t (Literal v) = omega arith
leaf_low b x lv t (Sense i) = omega arith
leaf_low b x lv t Uid = omega arith
leaf_low b x lv t NbrLink = omega arith
leaf_low b x lv t (Variable q) = by_tests (nat_eq q x) (is_field t)
  where
    by_tests : (c f : Bool) → b ≤ (if c then suc b else reads_level f b (lv q))
    by_tests true f = omega arith
    by_tests false true = omega arith
    by_tests false false = omega arith

mutual
  pub level_low : (K : ℕ → ℕ) (p b x : ℕ) (lv : Lvs) (t : Term) → b ≤ level_of K p b x lv t
  level_low K p b x lv (Plain t l) = leaf_low b x lv t l
  level_low K p b x lv (Apply t o xs) = all_low K (suc p) b x lv xs
  level_low K p b x lv (Nbr t a) = by_test (is_own x a) (level_low K (suc p) b x lv a)
    where
      by_test : (c : Bool) → b ≤ level_of K (suc p) b x lv a → b ≤ (if c then suc b else suc (level_of K (suc p) b x lv a))
      by_test true h = omega arith
      by_test false h = omega arith
  level_low K p b x lv (Evolve t e a u) = let h = level_low K (suc p + size a) b p lv u in omega (arith, h)
  level_low K p b x lv (If t c u v) = let h = level_low K (suc p) b x lv c in omega (arith, h)
  level_low K p b x lv (Let t a u) = level_low K (suc p + size a) b x (bind_level p (level_of K (suc p) b x lv a) lv) u

  pub all_low : (K : ℕ → ℕ) (p b x : ℕ) (lv : Lvs) (xs : Terms) → b ≤ level_all K p b x lv xs
  all_low K p b x lv NoMore = omega arith
  all_low K p b x lv (More t ts) = let h = level_low K p b x lv t in omega (arith, h)

own_none : (x : ℕ) (a : Term) → occurs x a ≡ false → is_own x a ≡ false
own_none x (Plain t l) h = h
own_none x (Apply t o xs) h = refl
own_none x (Nbr t a) h = refl
own_none x (Evolve t e a u) h = refl
own_none x (If t c u v) h = refl
own_none x (Let t a u) h = refl

pub or_none : (a b : Bool) → (a || b) ≡ false → (a ≡ false) × (b ≡ false)
or_none true b h = absurd cc
or_none false b h = (refl, h)

pub or_left : (a b : Bool) → a ≡ true → (a || b) ≡ true
or_left true b h = refl
or_left false b h = absurd cc

pub or_right : (a b : Bool) → b ≡ true → (a || b) ≡ true
or_right true b h = refl
or_right false b h = h

pub self_eq : (q : ℕ) → nat_eq q q ≡ true
self_eq q = grind (arith, nat_tests)

pub not_eq : (q x : ℕ) → nat_eq q x ≡ false → q ≢ x
not_eq q x e = λ h. let e' = self_eq q in let e'' : nat_eq q q ≡ false = subst (λ y. nat_eq q y ≡ false) (sym h) e in absurd cc

kid_from : (i : ℕ) (us : Trees) (t : Tree) (ts : Trees) → trees_from i us ≡ Then t ts → (nth_tree i us ≡ t) × (trees_from (suc i) us ≡ ts)
kid_from zero Done t ts e = absurd cc
kid_from zero (Then t' ts') t ts e = (cc, cc)
kid_from (suc i) Done t ts e = absurd cc
kid_from (suc i) (Then t' ts') t ts e = kid_from i ts' t ts e

pub kid_is : (i : ℕ) (T t : Tree) (ts : Trees) → kids_from i T ≡ Then t ts → (child i T ≡ t) × (kids_from (suc i) T ≡ ts)
kid_is i (Keep v us) t ts e = kid_from i us t ts e

module _ (A : Analysis) (N : Network) (d j : ℕ) where
  abbrev M : ℕ
  M = N.declared.ceiling

  pub step_nbr : (t : ValueType) (a : Term) → StepOf A N d j a → StepOf A N d j (Nbr t a)
  step_nbr t a ih p b st lv D V F s vars env v tree cl g (nbr t' a' x ta es ea e) =
      let own = own_none st.var a cl in
      let r = ih (suc p) b st lv D V (local_map s.1) s.2 vars (child_env 0 env) (ValueLocal x) ta cl (record {
        frag = g.frag;
        ranges = g.ranges.1;
        inside = g.inside;
        alive = g.alive;
        low = g.low;
        own = λ l. own_kid _ _ 0 (λ T h. (one_first (FitsTree M a) T (Fits M (inner t)) h.0, h.1.2)) env.own (g.own l);
        near = λ l. near_kid _ _ 0 (λ n T h. (one_first (FitsTree M a) T (Fits M (inner t)) h.0, h.1.2)) (near_among N D d) env.near (g.near l);
        binders = g.binders;
      }) ea in
      let low = level_low A.stages (suc p) b st.var lv a in
      let here : level_of A.stages (suc p) b st.var lv a ≤ suc j → x ≡ s.1 d = λ l. let q = r.value l in cc in
      record {
        value = λ l.
            let l' : suc (level_of A.stages (suc p) b st.var lv a) ≤ suc j = rw own at l in
            let k : level_of A.stages (suc p) b st.var lv a ≤ j = omega (arith, l') in
            let near = near_as _ (λ n T. kept_of T ≡ Some (s.1 n)) (λ n T h. h.1.0 own k) (near_among N D d) env.near (g.near (omega (arith, k, low))) in
            let are = kept_are s.1 (near_among N D d) env.near near in
            let es' : es ≡ map (λ (m : ℕ × ℕ). (m.0, s.1 m.0)) (near_among N D d) = cc in
            let x' = here (omega (arith, k)) in
            rw (es', x') (sym (s.3 d g.inside));
        holds = ((λ o l. ap Some (here l)), (λ o. absurd (no_own own o)), r.holds);
      }
    where
      no_own : is_own st.var a ≡ false → is_own st.var a ≡ true → ⊥
      no_own e e' = absurd cc

  -- a variable that is read
  field_read : (D : Devices) (P : ℕ → Tree → Type 0) (env : Env) (w z y : AnyValue) → NearAre P (near_among N D d) env.near → w ≡ z → y ≡ restricted d (neighbour_numbers (near_among N D d)) z → restricted d (tree_numbers env.near) w ≡ y
  field_read D P env w z y near e e' = restricted_is P d (near_among N D d) env.near w near ∙ ap (restricted d (neighbour_numbers (near_among N D d))) e ∙ sym e'

  local_read : (t : LocalType) (ds : List ℕ) (D : Devices) (env : Env) (w z y : AnyValue) → FitsOver N.declared.ceiling ds (TypeLocal t) y → w ≡ z → y ≡ restricted d (neighbour_numbers (near_among N D d)) z → restricted d (tree_numbers env.near) w ≡ y
  local_read t ds D env (ValueLocal x) z y f e e' = sym (e' ∙ ap (restricted d (neighbour_numbers (near_among N D d))) (sym e))
  local_read t ds D env (ValueField es) z y f e e' =
      let y' : y ≡ restricted d (neighbour_numbers (near_among N D d)) (ValueField es) = e' ∙ ap (restricted d (neighbour_numbers (near_among N D d))) (sym e) in
      absurd (rw y' at f)

  step_variable : (t : ValueType) (q p b : ℕ) (st : Stage) (lv : Lvs) (D : Devices) (V : ValueMaps) (F : ValueMap) (s : Solves N p (Plain t (Variable q)) D V F) (vars : Vars) (env : Env) (w : AnyValue)
      → nat_eq q st.var ≡ false → Given A N d j p b st lv (Plain t (Variable q)) D V F s vars env → variable_at q vars ≡ Some w
      → leaf_level b st.var lv t (Variable q) ≤ suc j → restricted d (tree_numbers env.near) w ≡ F d
  step_variable (TypeField t) q p b st lv D V F s vars env w cl g e l =
      let l' : max (suc b) (lv q) ≤ suc j = rw cl at l in
      field_read D _ env w (V q d) (F d) (g.near (omega (arith, l'))) (g.binders q (self_eq q) (not_eq q st.var cl) w e (omega (arith, l'))) (s.1 d g.inside)
  step_variable (TypeLocal t) q p b st lv D V F s vars env w cl g e l =
      let l' : max b (lv q) ≤ suc j = rw cl at l in
      local_read t (around N D d) D env w (V q d) (F d) (s.0 d g.inside) (g.binders q (self_eq q) (not_eq q st.var cl) w e (omega (arith, l'))) (s.1 d g.inside)

  pub step_plain : (t : ValueType) (l : Leaf) → StepOf A N d j (Plain t l)
  step_plain t (Literal w) p b st lv D V F s vars env v tree cl g (literal t' w') = record { value = λ l. sym (s.1 d g.inside); holds = tt }
  step_plain t (Variable q) p b st lv D V F s vars env v tree cl g (variable t' q' w e) = record { value = λ l. step_variable t q p b st lv D V F s vars env w cl g e l; holds = tt }
  step_plain t (Sense i) p b st lv D V F s vars env v tree cl g (sense t' i' w e) =
      let r = s.1 d g.inside in
      let same : w ≡ r.0 = let e' = r.1 in cc in
      record { value = λ l. ap ValueLocal same ∙ sym r.2; holds = tt }
  step_plain t Uid p b st lv D V F s vars env v tree cl g (uid t') = record { value = λ l. sym (s.1 d g.inside); holds = tt }
  step_plain t NbrLink p b st lv D V F s vars env v tree cl g (nbr_link t') =
      record { value = λ l. let w = weights_are _ (near_among N D d) env.near (g.near (omega (arith, l))) in rw w (sym (s.1 d g.inside)); holds = tt }

  pub step_all : (xs : Terms) → ((r : Term) → size r ≤ sizes xs → StepOf A N d j r) → StepAll A N d j xs
  step_all NoMore P p i b st lv D V [] s vars env vs ts cl g none = record { values = λ l. refl; holds = λ T k. tt }
  step_all NoMore P p i b st lv D V (G ∷ Gs) s vars env vs ts cl g e = absurd s
  step_all (More x xs) P p i b st lv D V [] s vars env vs ts cl g e = absurd s
  step_all (More x xs) P p i b st lv D V (G ∷ Gs) s vars env vs ts cl g (one_more x' xs' v vs' t ts' e es) =
      let o = or_none (occurs st.var x) (occurs_in st.var xs) cl in
      let first = P x (omega arith) p b st lv D V G s.0 vars (child_env i env) v t o.0 (record {
        frag = g.frag.0;
        ranges = g.ranges.0;
        inside = g.inside;
        alive = g.alive;
        low = g.low;
        own = λ l. own_kid _ _ i (λ T h. (first_kid (FitsTree M x) (FitTrees M xs) i T h.0, h.1.0)) env.own (g.own l);
        near = λ l. near_kid _ _ i (λ n T h. (first_kid (FitsTree M x) (FitTrees M xs) i T h.0, h.1.0)) (near_among N D d) env.near (g.near l);
        binders = λ q u. g.binders q (or_left (occurs q x) (occurs_in q xs) u);
      }) e in
      let rest = step_all xs (λ r l. P r (omega (arith, l))) (p + size x) (suc i) b st lv D V Gs s.1 vars env vs' ts' o.1 (record {
        frag = g.frag.1;
        ranges = g.ranges.1;
        inside = g.inside;
        alive = g.alive;
        low = g.low;
        own = λ l. own_as _ _ (λ T h. (rest_kids (FitsTree M x) (FitTrees M xs) i T h.0, h.1.1)) env.own (g.own l);
        near = λ l. near_as _ _ (λ n T h. (rest_kids (FitsTree M x) (FitTrees M xs) i T h.0, h.1.1)) (near_among N D d) env.near (g.near l);
        binders = λ q u. g.binders q (or_right (occurs q x) (occurs_in q xs) u);
      }) es in
      record {
        values = λ l. let e0 = first.value (omega (arith, l)) in let e1 = rest.values (omega (arith, l)) in rw (e0, e1) refl;
        holds = λ T k. let kid = kid_is i T t ts' k in (subst (λ u. Holds A N (suc j) p b st lv x D V G s.0 d u) (sym kid.0) first.holds, rest.holds T kid.1);
      }

  pub all_given : (t : ValueType) (o : Builtin) (xs : Terms) (p b : ℕ) (st : Stage) (lv : Lvs) (D : Devices) (V : ValueMaps) (F : ValueMap) (s : Solves N p (Apply t o xs) D V F) (vars : Vars) (env : Env) → Given A N d j p b st lv (Apply t o xs) D V F s vars env
      → GivenAll A N d j (suc p) 0 b st lv xs D V s.1 s.2 vars env
  all_given t o xs p b st lv D V F s vars env g = record {
    frag = g.frag;
    ranges = g.ranges.1;
    inside = g.inside;
    alive = g.alive;
    low = g.low;
    own = λ l. own_as _ _ (λ T h. (apply_kids M t o xs T h.0, h.1)) env.own (g.own l);
    near = λ l. near_as _ _ (λ n T h. (apply_kids M t o xs T h.0, h.1)) (near_among N D d) env.near (g.near l);
    binders = g.binders;
  }

  pub step_apply : (t : ValueType) (o : Builtin) (xs : Terms) → StepAll A N d j xs → StepOf A N d j (Apply t o xs)
  step_apply t o xs ih p b st lv D V F s vars env v tree cl g (builtin t' o' xs' vs ts w es e) =
      let r = ih (suc p) 0 b st lv D V s.1 s.2 vars env vs ts cl (all_given t o xs p b st lv D V F s vars env g) es in
      record {
        value = λ l. let e' = r.values l in let e'' = s.3 d g.inside in let same : Some w ≡ Some (F d) = sym e ∙ ap (builtin_value o N.declared.ceiling d) e' ∙ e'' in cc;
        holds = r.holds (Keep None ts) refl;
      }

  pub step_let : (t : ValueType) (a u : Term) → StepOf A N d j a → StepOf A N d j u → StepOf A N d j (Let t a u)
  step_let t a u ha hu p b st lv D V F s vars env v tree cl g (binding t' a' u' r v' ta tb ea eb) =
      let o = or_none (occurs st.var a) (occurs st.var u) cl in
      let k = level_of A.stages (suc p) b st.var lv a in
      let ra = ha (suc p) b st lv D V s.1 s.2 vars (child_env 0 env) r ta o.0 (record {
        frag = g.frag.0;
        ranges = g.ranges.1;
        inside = g.inside;
        alive = g.alive;
        low = g.low;
        own = λ l. own_kid _ _ 0 (λ T h. (plain_first (FitsTree M a) (FitsTree M u) T h.0, h.1.0)) env.own (g.own l);
        near = λ l. near_kid _ _ 0 (λ n T h. (plain_first (FitsTree M a) (FitsTree M u) T h.0, h.1.0)) (near_among N D d) env.near (g.near l);
        binders = λ q i. g.binders q (or_left (occurs q a) (occurs q u) i);
      }) ea in
      let ru = hu (suc p + size a) b st (bind_level p k lv) D (bind p s.1 V) F s.3 ((p, r) ∷ vars) (child_env 1 env) v' tb o.1 (record {
        frag = g.frag.1;
        ranges = g.ranges.2;
        inside = g.inside;
        alive = g.alive;
        low = g.low;
        own = λ l. own_kid _ _ 1 (λ T h. (plain_second (FitsTree M a) (FitsTree M u) T h.0, h.1.1)) env.own (g.own l);
        near = λ l. near_kid _ _ 1 (λ n T h. (plain_second (FitsTree M a) (FitsTree M u) T h.0, h.1.1)) (near_among N D d) env.near (g.near l);
        binders = λ q i ne w e l. by_test q i ne w ra.value (nat_eq p q) e l;
      }) eb in
      record { value = ru.value; holds = (ra.holds, ru.holds) }
    where
      by_test : (q : ℕ) → occurs q u ≡ true → q ≢ st.var → (w : AnyValue) → (level_of A.stages (suc p) b st.var lv a ≤ suc j → r ≡ s.1 d) → (c : Bool)
          → (if c then Some r else variable_at q vars) ≡ Some w → (if c then level_of A.stages (suc p) b st.var lv a else lv q) ≤ suc j → w ≡ (if c then s.1 else V q) d
      by_test q i ne w h true e l = let same : r ≡ w = cc in sym same ∙ h l
      by_test q i ne w h false e l = g.binders q (or_right (occurs q a) (occurs q u) i) ne w e l

  -- the branch that a truth picks
  module _ (D : Devices) (k : ℕ → Bool) (r : Bool) (X Q : ℕ → Tree → Type 0) (truth : (n : ℕ) (T : Tree) → X n T → kept_of T ≡ Some (BoolValue (k n))) (part : (n : ℕ) (T : Tree) → k n ≡ r → X n T → Q n (child 1 T)) (env : Env) where
    near_there : NearAre X (near_among N D d) env.near → NearAre Q (near_among N (where_is r D k) d) (child_env 1 (branch_env r env)).near
    near_there h = near_kid (OnBranch X D k r) Q 1 (λ n T u. part n T u.0 u.1) (near_among N (where_is r D k) d) (branch_env r env).near
        (near_branch X D k r (near N d) env.near (near_as X (Truth X D k r) (λ n T u. (truth n T u, u)) (near_among N D d) env.near h))

    own_there : k d ≡ r → OwnIs (X d) env.own → OwnIs (Q d) (child_env 1 (branch_env r env)).own
    own_there e h = own_kid (X d) (Q d) 1 (λ T u. part d T e u) (branch_env r env).own
        (own_branch (X d) r (k d) env.own (is_same r (k d) e) (own_as (X d) (λ T. (kept_of T ≡ Some (BoolValue (k d))) × X d T) (λ T u. (truth d T u, u)) env.own h))

  keeps_it : (T : Tree) (r k : Bool) → kept_of T ≡ Some (BoolValue k) → k ≡ r → keeps_truth r (kept_of T) ≡ true
  keeps_it T r k h q = rw h (is_same r k q)

  in_branch_too : (D : Devices) (k : ℕ → Bool) (r : Bool) → In D d → k d ≡ r → In (where_is r D k) d
  in_branch_too D k r i e = let t = is_same r (k d) e in rw (i, t) refl

  module _ (t : ValueType) (c u w : Term) (p b : ℕ) (st : Stage) (lv : Lvs) (D : Devices) (V : ValueMaps) (F : ValueMap) (s : Solves N p (If t c u w) D V F) (vars : Vars) (env : Env) (g : Given A N d j p b st lv (If t c u w) D V F s vars env) where
    abbrev kc : ℕ
    kc = level_of A.stages (suc p) b st.var lv c

    abbrev here : ℕ → Tree → Type 0
    here n T = Here A N j p b st lv (If t c u w) D V F s n T

    abbrev first : ℕ → Tree → Type 0
    first n T = Here A N j (suc p + size c) kc st lv u (where_is true D s.1) V F s.3 n T

    abbrev second : ℕ → Tree → Type 0
    second n T = Here A N j (suc p + size c + size u) kc st lv w (where_is false D s.1) V F s.4 n T

    given_cond : Given A N d j (suc p) b st lv c D V (local_map (λ n. BoolValue (s.1 n))) s.2 vars (child_env 0 env)
    given_cond = record {
      frag = g.frag.0;
      ranges = g.ranges.1;
      inside = g.inside;
      alive = g.alive;
      low = g.low;
      own = λ l. own_kid _ _ 0 (λ T h. (truth_first (FitsTree M c) (FitsTree M u) (FitsTree M w) T h.0, h.1.1)) env.own (g.own l);
      near = λ l. near_kid _ _ 0 (λ n T h. (truth_first (FitsTree M c) (FitsTree M u) (FitsTree M w) T h.0, h.1.1)) (near_among N D d) env.near (g.near l);
      binders = λ q i. g.binders q (or_left (occurs q c) (occurs q u || occurs q w) i);
    }

    given_true : kc ≤ suc j → s.1 d ≡ true → Given A N d j (suc p + size c) kc st lv u (where_is true D s.1) V F s.3 vars (child_env 1 (branch_env true env))
    given_true l e =
        let low = level_low A.stages (suc p) b st.var lv c in
        record {
          frag = g.frag.1;
          ranges = g.ranges.2;
          inside = in_branch_too D s.1 true g.inside e;
          alive = g.alive;
          low = l;
          own = λ m. own_there D s.1 true here first (λ n T h. h.1.0 m) (λ n T q h. (truth_taken (FitsTree M c) (FitsTree M u) (FitsTree M w) T (h.0, keeps_it T true (s.1 n) (h.1.0 m) q), h.1.2 m q)) env e (g.own (omega (arith, m, low)));
          near = λ m. near_there D s.1 true here first (λ n T h. h.1.0 m) (λ n T q h. (truth_taken (FitsTree M c) (FitsTree M u) (FitsTree M w) T (h.0, keeps_it T true (s.1 n) (h.1.0 m) q), h.1.2 m q)) env (g.near (omega (arith, m, low)));
          binders = λ q i. g.binders q (or_right (occurs q c) (occurs q u || occurs q w) (or_left (occurs q u) (occurs q w) i));
        }

    given_false : kc ≤ suc j → s.1 d ≡ false → Given A N d j (suc p + size c + size u) kc st lv w (where_is false D s.1) V F s.4 vars (child_env 1 (branch_env false env))
    given_false l e =
        let low = level_low A.stages (suc p) b st.var lv c in
        record {
          frag = g.frag.2;
          ranges = g.ranges.3;
          inside = in_branch_too D s.1 false g.inside e;
          alive = g.alive;
          low = l;
          own = λ m. own_there D s.1 false here second (λ n T h. h.1.0 m) (λ n T q h. (truth_other (FitsTree M c) (FitsTree M u) (FitsTree M w) T (h.0, keeps_it T false (s.1 n) (h.1.0 m) q), h.1.3 m q)) env e (g.own (omega (arith, m, low)));
          near = λ m. near_there D s.1 false here second (λ n T h. h.1.0 m) (λ n T q h. (truth_other (FitsTree M c) (FitsTree M u) (FitsTree M w) T (h.0, keeps_it T false (s.1 n) (h.1.0 m) q), h.1.3 m q)) env (g.near (omega (arith, m, low)));
          binders = λ q i. g.binders q (or_right (occurs q c) (occurs q u || occurs q w) (or_right (occurs q u) (occurs q w) i));
        }

  pub step_if : (t : ValueType) (c u w : Term) → StepOf A N d j c → StepOf A N d j u → StepOf A N d j w → StepOf A N d j (If t c u w)
  step_if t c u w hc hu hw p b st lv D V F s vars env v tree cl g (if_true t' c' u' w' v' tc tk ec ea) =
      let o = or_none (occurs st.var c) (occurs st.var u || occurs st.var w) cl in
      let o' = or_none (occurs st.var u) (occurs st.var w) o.1 in
      let rc = hc (suc p) b st lv D V (local_map (λ n. BoolValue (s.1 n))) s.2 vars (child_env 0 env) (ValueLocal (BoolValue true)) tc o.0 (given_cond t c u w p b st lv D V F s vars env g) ec in
      let truth : level_of A.stages (suc p) b st.var lv c ≤ suc j → s.1 d ≡ true = λ l. let e = rc.value l in cc in
      let ru = λ (l : level_of A.stages (suc p) b st.var lv c ≤ suc j). hu (suc p + size c) (level_of A.stages (suc p) b st.var lv c) st lv (where_is true D s.1) V F s.3 vars (child_env 1 (branch_env true env)) v' tk o'.0 (given_true t c u w p b st lv D V F s vars env g l (truth l)) ea in
      record {
        value = λ l. (ru (omega (arith, l))).value (omega (arith, l));
        holds = ((λ l. ap (λ k. Some (BoolValue k)) (sym (truth l))), rc.holds, (λ l e. (ru l).holds), (λ l e. absurd (other (truth l) e)));
      }
    where
      other : s.1 d ≡ true → s.1 d ≡ false → ⊥
      other e e' = absurd cc
  step_if t c u w hc hu hw p b st lv D V F s vars env v tree cl g (if_false t' c' u' w' v' tc tk ec ea) =
      let o = or_none (occurs st.var c) (occurs st.var u || occurs st.var w) cl in
      let o' = or_none (occurs st.var u) (occurs st.var w) o.1 in
      let rc = hc (suc p) b st lv D V (local_map (λ n. BoolValue (s.1 n))) s.2 vars (child_env 0 env) (ValueLocal (BoolValue false)) tc o.0 (given_cond t c u w p b st lv D V F s vars env g) ec in
      let truth : level_of A.stages (suc p) b st.var lv c ≤ suc j → s.1 d ≡ false = λ l. let e = rc.value l in cc in
      let ru = λ (l : level_of A.stages (suc p) b st.var lv c ≤ suc j). hw (suc p + size c + size u) (level_of A.stages (suc p) b st.var lv c) st lv (where_is false D s.1) V F s.4 vars (child_env 1 (branch_env false env)) v' tk o'.1 (given_false t c u w p b st lv D V F s vars env g l (truth l)) ea in
      record {
        value = λ l. (ru (omega (arith, l))).value (omega (arith, l));
        holds = ((λ l. ap (λ k. Some (BoolValue k)) (sym (truth l))), rc.holds, (λ l e. absurd (other e (truth l))), (λ l e. (ru l).holds));
      }
    where
      other : s.1 d ≡ true → s.1 d ≡ false → ⊥
      other e e' = absurd cc
