-- Crates above cite this module: a typed term is never stuck. In an environment that fits it has a value and a tree,
-- and they fit.
use Rattle.std.proofs.Common.{◌≡◌, ℕ, suc, ◌+◌, min, List, [], ◌∷◌, refl, sym, ◌∙◌, ap, subst, arith, Bool, true, false}
use Rattle.std.proofs.Common.{Option, Some, None}
use Rattle.fc_values.specs.declared.builtins.Builtin.{Builtin}
use Rattle.fc_values.specs.Types.{LocalType, IntType, BoolType, ValueType, TypeLocal, TypeField, Declarations}
use Rattle.fc_values.specs.Values.{LocalValue, IntValue, BoolValue, PairValue, Fits}
use Rattle.fc_values.specs.Fields.{Entries, AnyValue, ValueLocal, ValueField, FitsOver, FitEachOver, with_entry}
use Rattle.fc_values.specs.Fields.{restricted, with_number}
use Rattle.fc_values.specs.BuiltinTypes.{inner}
use Rattle.fc_values.proofs.BuiltinTyped.{builtin_typed}
use Rattle.fc_values.specs.Trees.{Tree, Trees, Keep, Done, Then, leaf, child}
use Rattle.fc_nodes.specs.Terms.{Leaf, Literal, Variable, Sense, Uid, NbrLink, Evolution, ByRep, ByShare, Term, Terms}
use Rattle.fc_nodes.specs.Terms.{Plain, Apply, Nbr, Evolve, If, Let, NoMore, More, term_type, size}
use Rattle.fc_nodes.specs.Typing.{Scope, LeafHasType, evolving_type, types_of, HasType, HaveTypes}
use Rattle.fc_nodes.specs.Flat.{HasKids, KeepsWith, OneKid, TwoKids, KeepsTruth, FitsTree, FitTrees}
use Rattle.alignment.specs.Environments.{NearTree, Env, child_env, branch_env, near_numbers}
use Rattle.alignment.specs.Scopes.{weights, Vars}
use Rattle.device_eval.specs.Neighbours.{kept_there}
use Rattle.device_eval.specs.Evaluation.{Situation, own_or, heard, evolving, eval_of, eval_all, Outcome, Outcomes}
use Rattle.device_eval.specs.Conditions.{Suits, FitsEnv, EachNear, VarsFit}
use Rattle.value_trees.specs.Copies.{WhereSome}
use Rattle.fc_values.proofs.Rising.{rises_test}
use Rattle.fc_values.proofs.Numbers.{rises_with}
use Rattle.device_eval.proofs.Sights.{env_kid, env_as, near_as, InBranch, those_in, part_of, env_branch, kids_from}
use Rattle.alignment.proofs.Entries.{devices_with}
use Rattle.device_eval.proofs.Sights.{first_kid, rest_kids, fit_with, devices_weights, fit_weights, Keeps}
use Rattle.device_eval.proofs.Sights.{each_keeps, vars_part, bound_fits, Reads, variable_there, restricted_fits}

-- an outcome that is there and fits: the value over the device and its neighbours, and the tree
pub record Gives (ceiling device : ℕ) (ds : List ℕ) (t : ValueType) (P : Tree → Type 0) (o : Outcome) : Type 0 where
  pub value : AnyValue
  pub tree : Tree
  pub is : o ≡ Some (value, tree)
  pub fits : FitsOver ceiling (with_number device ds) t value
  pub formed : P tree

pub record GiveAll (ceiling device : ℕ) (ds : List ℕ) (ts : List ValueType) (P : Trees → Type 0) (o : Outcomes) : Type
    0 where
  pub values : List AnyValue
  pub trees : Trees
  pub are : o ≡ Some (values, trees)
  pub fit : FitEachOver ceiling (with_number device ds) ts values
  pub formed : P trees

-- what a tree of a kind keeps, and its kids
pub one_first : (P : Tree → Type 0) (t : Tree) (V : LocalValue → Type 0) → KeepsWith V (OneKid P) t → P (child 0 t)
one_first P (Keep None ts) V h = absurd h
one_first P (Keep (Some v) Done) V h = absurd h.1
one_first P (Keep (Some v) (Then t ts)) V h = h.1.0

module _ (P Q : Tree → Type 0) where
  pub two_first : (t : Tree) (V : LocalValue → Type 0) → KeepsWith V (TwoKids P Q) t → P (child 0 t)
  two_first (Keep None ts) V h = absurd h
  two_first (Keep (Some v) Done) V h = absurd h.1
  two_first (Keep (Some v) (Then t ts)) V h = h.1.0

  pub two_second : (t : Tree) (V : LocalValue → Type 0) → KeepsWith V (TwoKids P Q) t → Q (child 1 t)
  two_second (Keep None ts) V h = absurd h
  two_second (Keep (Some v) Done) V h = absurd h.1
  two_second (Keep (Some v) (Then t Done)) V h = absurd h.1.1
  two_second (Keep (Some v) (Then t (Then u ts))) V h = h.1.1.0

  pub plain_first : (t : Tree) → HasKids (TwoKids P Q) t → P (child 0 t)
  plain_first (Keep (Some v) ts) h = absurd h
  plain_first (Keep None Done) h = absurd h
  plain_first (Keep None (Then t ts)) h = h.0

  pub plain_second : (t : Tree) → HasKids (TwoKids P Q) t → Q (child 1 t)
  plain_second (Keep (Some v) ts) h = absurd h
  plain_second (Keep None Done) h = absurd h
  plain_second (Keep None (Then t Done)) h = absurd h.1
  plain_second (Keep None (Then t (Then u ts))) h = h.1.0

pub keeps_value : (ceiling : ℕ) (t : ValueType) (s : LocalType) (Q : Trees → Type 0) (tree : Tree) → inner t ≡ s
    → KeepsWith (Fits ceiling (inner t)) Q tree → Keeps ceiling s tree
keeps_value ceiling t s Q (Keep None ts) e h = absurd h
keeps_value ceiling t s Q (Keep (Some v) ts) e h =
    record { value = v; is = refl; fits = subst (λ u. Fits ceiling u v) e h.0 }

module _ (C A B : Tree → Type 0) where
  pub truth_first : (t : Tree) → KeepsTruth C A B t → C (child 0 t)
  truth_first (Keep None ts) h = absurd h
  truth_first (Keep (Some (IntValue n)) ts) h = absurd h
  truth_first (Keep (Some (PairValue v w)) ts) h = absurd h
  truth_first (Keep (Some (BoolValue true)) Done) h = absurd h
  truth_first (Keep (Some (BoolValue true)) (Then t ts)) h = h.0
  truth_first (Keep (Some (BoolValue false)) Done) h = absurd h
  truth_first (Keep (Some (BoolValue false)) (Then t ts)) h = h.0

  pub truth_taken : (t : Tree) → InBranch (KeepsTruth C A B) true t → A (child 1 t)
  truth_taken (Keep None ts) h = absurd h.0
  truth_taken (Keep (Some (IntValue n)) ts) h = absurd h.0
  truth_taken (Keep (Some (PairValue v w)) ts) h = absurd h.0
  truth_taken (Keep (Some (BoolValue true)) Done) h = absurd h.0
  truth_taken (Keep (Some (BoolValue true)) (Then t Done)) h = absurd h.0.1
  truth_taken (Keep (Some (BoolValue true)) (Then t (Then u ts))) h = h.0.1.0
  truth_taken (Keep (Some (BoolValue false)) ts) h = absurd cc

  pub truth_other : (t : Tree) → InBranch (KeepsTruth C A B) false t → B (child 1 t)
  truth_other (Keep None ts) h = absurd h.0
  truth_other (Keep (Some (IntValue n)) ts) h = absurd h.0
  truth_other (Keep (Some (PairValue v w)) ts) h = absurd h.0
  truth_other (Keep (Some (BoolValue false)) Done) h = absurd h.0
  truth_other (Keep (Some (BoolValue false)) (Then t Done)) h = absurd h.0.1
  truth_other (Keep (Some (BoolValue false)) (Then t (Then u ts))) h = h.0.1.0
  truth_other (Keep (Some (BoolValue true)) ts) h = absurd cc

-- the kids of a builtin
pub apply_kids : (ceiling : ℕ) (t : ValueType) (o : Builtin) (xs : Terms) (tree : Tree)
    → FitsTree ceiling (Apply t o xs) tree → FitTrees ceiling xs (kids_from 0 tree)
apply_kids ceiling t o xs (Keep None ts) h = h
apply_kids ceiling t o xs (Keep (Some v) ts) h = absurd h

-- what the kids of a node see
abbrev pub Sees : ℕ → ℕ → List ℕ → Term → Env → Type 0
Sees ceiling device ds t env = FitsEnv ceiling device ds (FitsTree ceiling t) env

abbrev pub SeeFrom : ℕ → ℕ → List ℕ → ℕ → Terms → Env → Type 0
SeeFrom ceiling device ds i xs env = FitsEnv ceiling device ds (λ tree. FitTrees ceiling xs (kids_from i tree)) env

module _ (ceiling device : ℕ) (ds : List ℕ) (env : Env) where
  pub apply_sees : (t : ValueType) (o : Builtin) (xs : Terms) → Sees ceiling device ds (Apply t o xs) env
      → SeeFrom ceiling device ds 0 xs env
  apply_sees t o xs h =
      env_as (FitsTree ceiling (Apply t o xs)) (λ tree. FitTrees ceiling xs (kids_from 0 tree))
      (apply_kids ceiling t o xs) ceiling device ds env h

  pub first_sees : (i : ℕ) (x : Term) (xs : Terms) → SeeFrom ceiling device ds i (More x xs) env
      → Sees ceiling device ds x (child_env i env)
  first_sees i x xs h =
      env_kid (λ tree. FitTrees ceiling (More x xs) (kids_from i tree)) (FitsTree ceiling x) i
      (λ tree f. first_kid (FitsTree ceiling x) (FitTrees ceiling xs) i tree f) ceiling device ds env h

  pub rest_see : (i : ℕ) (x : Term) (xs : Terms) → SeeFrom ceiling device ds i (More x xs) env
      → SeeFrom ceiling device ds (suc i) xs env
  rest_see i x xs h =
      env_as (λ tree. FitTrees ceiling (More x xs) (kids_from i tree))
      (λ tree. FitTrees ceiling xs (kids_from (suc i) tree))
      (λ tree f. rest_kids (FitsTree ceiling x) (FitTrees ceiling xs) i tree f) ceiling device ds env h

  pub nbr_sees : (t : ValueType) (a : Term) → Sees ceiling device ds (Nbr t a) env
      → Sees ceiling device ds a (child_env 0 env)
  nbr_sees t a h =
      env_kid (FitsTree ceiling (Nbr t a)) (FitsTree ceiling a) 0
      (λ tree f. one_first (FitsTree ceiling a) tree (Fits ceiling (inner t)) f) ceiling device ds env h

  pub nbr_keeps : (t : ValueType) (a : Term) → Sees ceiling device ds (Nbr t a) env
      → EachNear (Keeps ceiling (inner t)) env.near
  nbr_keeps t a h =
      near_as (FitsTree ceiling (Nbr t a)) (Keeps ceiling (inner t))
      (λ tree f. keeps_value ceiling t (inner t) (OneKid (FitsTree ceiling a)) tree refl f) env.near h.near

  module _ (t : ValueType) (e : Evolution) (a b : Term) (h : Sees ceiling device ds (Evolve t e a b) env) where
    pub evolve_sees_first : Sees ceiling device ds a (child_env 0 env)
    evolve_sees_first =
        env_kid (FitsTree ceiling (Evolve t e a b)) (FitsTree ceiling a) 0
        (λ tree f. two_first (FitsTree ceiling a) (FitsTree ceiling b) tree (Fits ceiling (inner t)) f) ceiling device
        ds env h

    pub evolve_sees_body : Sees ceiling device ds b (child_env 1 env)
    evolve_sees_body =
        env_kid (FitsTree ceiling (Evolve t e a b)) (FitsTree ceiling b) 1
        (λ tree f. two_second (FitsTree ceiling a) (FitsTree ceiling b) tree (Fits ceiling (inner t)) f) ceiling device
        ds env h

    pub evolve_keeps : FitsEnv ceiling device ds (Keeps ceiling (inner t)) env
    evolve_keeps =
        env_as (FitsTree ceiling (Evolve t e a b)) (Keeps ceiling (inner t))
        (λ tree f. keeps_value ceiling t (inner t) (TwoKids (FitsTree ceiling a) (FitsTree ceiling b)) tree refl f)
        ceiling device ds env h

  module _ (t : ValueType) (c a b : Term) (h : Sees ceiling device ds (If t c a b) env) where
    abbrev pub those_taking : Bool → List ℕ
    those_taking k = those_in (FitsTree ceiling (If t c a b)) k env

    pub if_sees_condition : Sees ceiling device ds c (child_env 0 env)
    if_sees_condition =
        env_kid (FitsTree ceiling (If t c a b)) (FitsTree ceiling c) 0
        (λ tree f. truth_first (FitsTree ceiling c) (FitsTree ceiling a) (FitsTree ceiling b) tree f) ceiling device ds
        env h

    pub if_sees_true : Sees ceiling device (those_taking true) a (child_env 1 (branch_env true env))
    if_sees_true =
        env_kid (InBranch (FitsTree ceiling (If t c a b)) true) (FitsTree ceiling a) 1
        (λ tree f. truth_taken (FitsTree ceiling c) (FitsTree ceiling a) (FitsTree ceiling b) tree f) ceiling device
        (those_taking true) (branch_env true env) (env_branch (FitsTree ceiling (If t c a b)) true ceiling device ds env
        h)

    pub if_sees_false : Sees ceiling device (those_taking false) b (child_env 1 (branch_env false env))
    if_sees_false =
        env_kid (InBranch (FitsTree ceiling (If t c a b)) false) (FitsTree ceiling b) 1
        (λ tree f. truth_other (FitsTree ceiling c) (FitsTree ceiling a) (FitsTree ceiling b) tree f) ceiling device
        (those_taking false) (branch_env false env) (env_branch (FitsTree ceiling (If t c a b)) false ceiling device ds
        env h)

    pub if_vars : (k : Bool) (scope : Scope) (vars : Vars) → VarsFit ceiling device ds scope vars
        → VarsFit ceiling device (those_taking k) scope vars
    if_vars k =
        vars_part ceiling device (part_of (FitsTree ceiling (If t c a b)) k ceiling device ds env h) h.rising h.other

  module _ (t : ValueType) (a b : Term) (h : Sees ceiling device ds (Let t a b) env) where
    pub let_sees_value : Sees ceiling device ds a (child_env 0 env)
    let_sees_value =
        env_kid (FitsTree ceiling (Let t a b)) (FitsTree ceiling a) 0
        (λ tree f. plain_first (FitsTree ceiling a) (FitsTree ceiling b) tree f) ceiling device ds env h

    pub let_sees_body : Sees ceiling device ds b (child_env 1 env)
    let_sees_body =
        env_kid (FitsTree ceiling (Let t a b)) (FitsTree ceiling b) 1
        (λ tree f. plain_second (FitsTree ceiling a) (FitsTree ceiling b) tree f) ceiling device ds env h

-- a value of a local type
pub record IsLocalOf (ceiling : ℕ) (s : LocalType) (v : AnyValue) : Type 0 where
  pub value : LocalValue
  pub is : v ≡ ValueLocal value
  pub fits : Fits ceiling s value

pub local_of_type : (ceiling : ℕ) (ds : List ℕ) (t : ValueType) (s : LocalType) (v : AnyValue) → t ≡ TypeLocal s
    → FitsOver ceiling ds t v → IsLocalOf ceiling s v
local_of_type ceiling ds (TypeLocal u) s (ValueLocal x) e h =
    let same : u ≡ s = cc in record { value = x; is = refl; fits = subst (λ w. Fits ceiling w x) same h }
local_of_type ceiling ds (TypeLocal u) s (ValueField es) e h = absurd h
local_of_type ceiling ds (TypeField u) s v e h = absurd cc

pub record IsTruthValue (v : AnyValue) : Type 0 where
  pub truth : Bool
  pub is : v ≡ ValueLocal (BoolValue truth)

pub truth_of_type : (ceiling : ℕ) (ds : List ℕ) (t : ValueType) (v : AnyValue) → t ≡ TypeLocal BoolType
    → FitsOver ceiling ds t v → IsTruthValue v
truth_of_type ceiling ds t v e h = by_value l.value l.is l.fits
  where
    l : IsLocalOf ceiling BoolType v
    l = local_of_type ceiling ds t BoolType v e h

    by_value : (x : LocalValue) → v ≡ ValueLocal x → Fits ceiling BoolType x → IsTruthValue v
    by_value (BoolValue b) e h = record { truth = b; is = e }
    by_value (IntValue n) e h = absurd h
    by_value (PairValue a b) e h = absurd h

-- the own value of an evolving term
pub record Starts (ceiling : ℕ) (s : LocalType) (o : Option LocalValue) : Type 0 where
  pub value : LocalValue
  pub is : o ≡ Some value
  pub fits : Fits ceiling s value

pub own_starts : (ceiling : ℕ) (s : LocalType) (own : Option Tree) (first : LocalValue)
    → WhereSome (Keeps ceiling s) own → Fits ceiling s first → Starts ceiling s (own_or own first)
own_starts ceiling s None first h f = record { value = first; is = refl; fits = f }
own_starts ceiling s (Some t) first h f = record { value = h.value; is = h.is; fits = h.fits }

-- one node, from its kids
module _ (D : Declarations) (S : Situation) (suits : Suits D S) where
  leaf_progress : (t : ValueType) (l : Leaf) (scope : Scope) (p : ℕ) (ds : List ℕ) (P : Tree → Type 0) (vars : Vars)
      (env : Env) → LeafHasType D scope t l → VarsFit S.ceiling S.device ds scope vars
      → FitsEnv S.ceiling S.device ds P env
      → Gives S.ceiling S.device ds t (FitsTree S.ceiling (Plain t l)) (eval_of S p (Plain t l) vars env)
  leaf_progress t (Literal (IntValue n)) scope p ds P vars env ty vf ef =
      let e = suits.ceiling in record {
        value = ValueLocal (IntValue n);
        tree = leaf;
        is = refl;
        fits = rw (ty.0, ← e) ty.1;
        formed = tt;
      }
  leaf_progress t (Literal (BoolValue b)) scope p ds P vars env ty vf ef =
      record { value = ValueLocal (BoolValue b); tree = leaf; is = refl; fits = rw ty tt; formed = tt }
  leaf_progress t (Literal (PairValue a b)) scope p ds P vars env ty vf ef = absurd ty
  leaf_progress t (Variable n) scope p ds P vars env ty vf ef =
      let r = variable_there S.ceiling S.device ds scope vars n t ty vf in
      let e = r.is in
      record {
        value = restricted S.device (near_numbers env.near) r.value;
        tree = leaf;
        is = rw e refl;
        fits = subst (λ (ns : List ℕ). FitsOver S.ceiling (with_number S.device ds) t
            (restricted S.device ns r.value)) (sym ef.numbers) (restricted_fits S.device ds S.ceiling t r.value r.fits);
        formed = tt;
      }
  leaf_progress t (Sense i) scope p ds P vars env ty vf ef =
      let r = suits.inputs i ty.0 ty.1 in
      let e = r.is in
      record { value = ValueLocal r.value; tree = leaf; is = rw e refl; fits = rw ty.2 r.fits; formed = tt }
  leaf_progress t Uid scope p ds P vars env ty vf ef =
      record {
        value = ValueLocal (IntValue (min S.device S.ceiling));
        tree = leaf;
        is = refl;
        fits = rw ty (omega arith);
        formed = tt;
      }
  leaf_progress t NbrLink scope p ds P vars env ty vf ef =
      let numbers = devices_with S.device (IntValue S.least) (weights env.near)
      ∙ ap (with_number S.device) (devices_weights env.near ∙ ef.numbers) in
      let fit = fit_with S.ceiling IntType S.device (IntValue S.least) (weights env.near) suits.least
      (fit_weights S.ceiling env.near ef.light) in
      record {
        value = ValueField (with_entry S.device (IntValue S.least) (weights env.near));
        tree = leaf;
        is = refl;
        fits = rw ty (numbers, fit);
        formed = tt;
      }

  evolve_gives : (t : ValueType) (e : Evolution) (a b : Term) (s : LocalType) (p : ℕ) (ds : List ℕ) (vars : Vars)
      (env : Env) (va vb x : AnyValue) (ta tb : Tree) (first v : LocalValue) → t ≡ TypeLocal s
      → eval_of S (suc p) a vars (child_env 0 env) ≡ Some (va, ta) → va ≡ ValueLocal first
      → evolving e S.device env first ≡ Some x
      → eval_of S (suc p + size a) b ((p, x) ∷ vars) (child_env 1 env) ≡ Some (vb, tb) → vb ≡ ValueLocal v
      → Fits S.ceiling s v → FitsTree S.ceiling a ta → FitsTree S.ceiling b tb
      → Gives S.ceiling S.device ds t (FitsTree S.ceiling (Evolve t e a b)) (eval_of S p (Evolve t e a b) vars env)
  evolve_gives t e a b s p ds vars env va vb x ta tb first v et ea la ex eb lb fv fa fb =
      record {
        value = ValueLocal v;
        tree = Keep (Some v) (Then ta (Then tb Done));
        is = rw (ea, la, ex, eb, lb) refl;
        fits = rw et fv;
        formed = (rw et fv, (fa, (fb, tt)));
      }

-- the field of what the neighbours keep, and of the device's own value
pub record Hears (ceiling device : ℕ) (ds : List ℕ) (s : LocalType) (o : Option AnyValue) : Type 0 where
  pub entries : Entries
  pub is : o ≡ Some (ValueField entries)
  pub fits : FitsOver ceiling (with_number device ds) (TypeField s) (ValueField entries)

pub hears : (ceiling device : ℕ) (ds : List ℕ) (s : LocalType) (ns : List NearTree) (o : Option LocalValue)
    → Starts ceiling s o → EachNear (Keeps ceiling s) ns → near_numbers ns ≡ ds
    → Hears ceiling device ds s (heard device o (kept_there ns))
hears ceiling device ds s ns o st h e =
    let k = each_keeps ceiling s ns h in
    let is = st.is in
    let are = k.are in
    record {
      entries = with_entry device st.value k.entries;
      is = rw (is, are) refl;
      fits = (
        devices_with device st.value k.entries ∙ ap (with_number device) (k.numbers ∙ e),
        fit_with ceiling s device st.value k.entries st.fits k.fit,
      );
    }

-- what the variable of an evolving term starts from
pub evolves : (ceiling device : ℕ) (ds : List ℕ) (e : Evolution) (s : LocalType) (env : Env) (first : LocalValue)
    → FitsEnv ceiling device ds (Keeps ceiling s) env → Fits ceiling s first
    → Reads ceiling device ds (evolving_type e s) (evolving e device env first)
evolves ceiling device ds ByRep s env first ef f =
    let st = own_starts ceiling s env.own first ef.own f in
    let is = st.is in
    record { value = ValueLocal st.value; is = rw is refl; fits = st.fits }
evolves ceiling device ds ByShare s env first ef f =
    let h = hears ceiling device ds s env.near (own_or env.own first) (own_starts ceiling s env.own first ef.own f)
    ef.near ef.numbers in
    record {
      value = ValueField h.entries;
      is = h.is;
      fits = bound_fits ceiling device ds (TypeField s) (ValueField h.entries) ef.rising ef.other h.fits;
    }

-- a local value is over any devices
pub local_over : (ceiling : ℕ) (ms ds : List ℕ) (t u : ValueType) (s : LocalType) (v : AnyValue) → t ≡ TypeLocal s
    → u ≡ TypeLocal s → FitsOver ceiling ms t v → FitsOver ceiling ds u v
local_over ceiling ms ds t u s v e e' h =
    let l = local_of_type ceiling ms t s v e h in
    let is = l.is in
    rw (e', is) l.fits

module _ (D : Declarations) (S : Situation) (suits : Suits D S) where
  nbr_gives : (t : ValueType) (a : Term) (s : LocalType) (p : ℕ) (ds : List ℕ) (vars : Vars) (env : Env) (va : AnyValue)
      (ta : Tree) (x : LocalValue) → t ≡ TypeField s
      → eval_of S (suc p) a vars (child_env 0 env) ≡ Some (va, ta) → va ≡ ValueLocal x → Fits S.ceiling s x
      → FitsTree S.ceiling a ta → Hears S.ceiling S.device ds s (heard S.device (Some x) (kept_there env.near))
      → Gives S.ceiling S.device ds t (FitsTree S.ceiling (Nbr t a)) (eval_of S p (Nbr t a) vars env)
  nbr_gives t a s p ds vars env va ta x et ea la fx fa h =
      let is = h.is in
      record {
        value = ValueField h.entries;
        tree = Keep (Some x) (Then ta Done);
        is = rw (ea, la, is) refl;
        fits = rw et h.fits;
        formed = (rw et fx, (fa, tt));
      }

  if_gives : (t : ValueType) (c a b : Term) (s : LocalType) (p : ℕ) (ds ms ns : List ℕ) (vars : Vars) (env : Env)
      (vc : AnyValue) (tc : Tree) (k : Bool) → t ≡ TypeLocal s → term_type a ≡ TypeLocal s → term_type b ≡ TypeLocal s
      → eval_of S (suc p) c vars (child_env 0 env) ≡ Some (vc, tc) → vc ≡ ValueLocal (BoolValue k)
      → FitsTree S.ceiling c tc
      → Gives S.ceiling S.device ms (term_type a) (FitsTree S.ceiling a)
      (eval_of S (suc p + size c) a vars (child_env 1 (branch_env true env)))
      → Gives S.ceiling S.device ns (term_type b) (FitsTree S.ceiling b)
      (eval_of S (suc p + size c + size a) b vars (child_env 1 (branch_env false env)))
      → Gives S.ceiling S.device ds t (FitsTree S.ceiling (If t c a b)) (eval_of S p (If t c a b) vars env)
  if_gives t c a b s p ds ms ns vars env vc tc true et ea eb ec ek fc ga gb =
      let is = ga.is in
      record {
        value = ga.value;
        tree = Keep (Some (BoolValue true)) (Then tc (Then ga.tree Done));
        is = rw (ec, ek, is) refl;
        fits =
            local_over S.ceiling (with_number S.device ms) (with_number S.device ds) (term_type a) t s ga.value ea et
            ga.fits;
        formed = (fc, (ga.formed, tt));
      }
  if_gives t c a b s p ds ms ns vars env vc tc false et ea eb ec ek fc ga gb =
      let is = gb.is in
      record {
        value = gb.value;
        tree = Keep (Some (BoolValue false)) (Then tc (Then gb.tree Done));
        is = rw (ec, ek, is) refl;
        fits =
            local_over S.ceiling (with_number S.device ns) (with_number S.device ds) (term_type b) t s gb.value eb et
            gb.fits;
        formed = (fc, (gb.formed, tt));
      }

  let_gives : (t : ValueType) (a b : Term) (p : ℕ) (ds : List ℕ) (vars : Vars) (env : Env) (va : AnyValue) (ta : Tree)
      → t ≡ term_type b
      → eval_of S (suc p) a vars (child_env 0 env) ≡ Some (va, ta) → FitsTree S.ceiling a ta
      → Gives S.ceiling S.device ds (term_type b) (FitsTree S.ceiling b)
      (eval_of S (suc p + size a) b ((p, va) ∷ vars) (child_env 1 env))
      → Gives S.ceiling S.device ds t (FitsTree S.ceiling (Let t a b)) (eval_of S p (Let t a b) vars env)
  let_gives t a b p ds vars env va ta et ea fa gb =
      let is = gb.is in
      record {
        value = gb.value;
        tree = Keep None (Then ta (Then gb.tree Done));
        is = rw (ea, is) refl;
        fits = rw et gb.fits;
        formed = (fa, (gb.formed, tt));
      }

  mutual
    pub progress : (t : Term) (scope : Scope) (p : ℕ) (ds : List ℕ) (vars : Vars) (env : Env) → HasType D scope p t
        → VarsFit S.ceiling S.device ds scope vars → FitsEnv S.ceiling S.device ds (FitsTree S.ceiling t) env
        → Gives S.ceiling S.device ds (term_type t) (FitsTree S.ceiling t) (eval_of S p t vars env)
    progress (Plain t l) scope p ds vars env ty vf ef =
        leaf_progress D S suits t l scope p ds (FitsTree S.ceiling (Plain t l)) vars env ty vf ef
    progress (Apply t o xs) scope p ds vars env ty vf ef =
        let g = progress_all xs scope (suc p) 0 ds vars env ty.1 vf (apply_sees S.ceiling S.device ds env t o xs ef) in
        let b = builtin_typed o S.ceiling S.device (with_number S.device ds) (types_of xs) t g.values ty.0
        (rises_test (with_number S.device ds) (rises_with S.device ds ef.other ef.rising)) g.fit in
        let are = g.are in
        let is = b.1 in
        record { value = b.0; tree = Keep None g.trees; is = rw (are, is) refl; fits = b.2; formed = g.formed }
    progress (Nbr t a) scope p ds vars env ty vf ef =
        let s : LocalType = ty.0 in
        let ga = progress a scope (suc p) ds vars (child_env 0 env) ty.3 vf
        (nbr_sees S.ceiling S.device ds env t a ef) in
        let la = local_of_type S.ceiling (with_number S.device ds) (term_type a) s ga.value ty.2 ga.fits in
        let near = subst (λ u. EachNear (Keeps S.ceiling u) env.near) (ap inner ty.1)
        (nbr_keeps S.ceiling S.device ds env t a ef) in
        nbr_gives t a s p ds vars env ga.value ga.tree la.value ty.1 ga.is la.is la.fits ga.formed
        (hears S.ceiling S.device ds s env.near (Some la.value) (record { value = la.value; is = refl; fits = la.fits })
        near ef.numbers)
    progress (Evolve t e a b) scope p ds vars env ty vf ef =
        let s : LocalType = ty.0 in
        let ga = progress a scope (suc p) ds vars (child_env 0 env) ty.4 vf
        (evolve_sees_first S.ceiling S.device ds env t e a b ef) in
        let la = local_of_type S.ceiling (with_number S.device ds) (term_type a) s ga.value ty.2 ga.fits in
        let kept = subst (λ u. FitsEnv S.ceiling S.device ds (Keeps S.ceiling u) env) (ap inner ty.1)
        (evolve_keeps S.ceiling S.device ds env t e a b ef) in
        let st = evolves S.ceiling S.device ds e s env la.value kept la.fits in
        let gb = progress b ((p, evolving_type e s) ∷ scope) (suc p + size a) ds ((p, st.value) ∷ vars)
        (child_env 1 env) ty.5 (refl, st.fits, vf) (evolve_sees_body S.ceiling S.device ds env t e a b ef) in
        let lb = local_of_type S.ceiling (with_number S.device ds) (term_type b) s gb.value ty.3 gb.fits in
        evolve_gives D S suits t e a b s p ds vars env ga.value gb.value st.value ga.tree gb.tree la.value lb.value ty.1
        ga.is la.is st.is gb.is lb.is lb.fits ga.formed gb.formed
    progress (If t c a b) scope p ds vars env ty vf ef =
        let gc = progress c scope (suc p) ds vars (child_env 0 env) ty.5 vf
        (if_sees_condition S.ceiling S.device ds env t c a b ef) in
        let tc = truth_of_type S.ceiling (with_number S.device ds) (term_type c) gc.value ty.2 gc.fits in
        let ms = those_taking S.ceiling S.device ds env t c a b ef true in
        let ns = those_taking S.ceiling S.device ds env t c a b ef false in
        let ga = progress a scope (suc p + size c) ms vars (child_env 1 (branch_env true env)) ty.6
        (if_vars S.ceiling S.device ds env t c a b ef true scope vars vf)
        (if_sees_true S.ceiling S.device ds env t c a b ef) in
        let gb = progress b scope (suc p + size c + size a) ns vars (child_env 1 (branch_env false env)) ty.7
        (if_vars S.ceiling S.device ds env t c a b ef false scope vars vf)
        (if_sees_false S.ceiling S.device ds env t c a b ef) in
        if_gives t c a b ty.0 p ds ms ns vars env gc.value gc.tree tc.truth ty.1 ty.3 ty.4 gc.is tc.is gc.formed ga gb
    progress (Let t a b) scope p ds vars env ty vf ef =
        let ga = progress a scope (suc p) ds vars (child_env 0 env) ty.1 vf
        (let_sees_value S.ceiling S.device ds env t a b ef) in
        let bound = bound_fits S.ceiling S.device ds (term_type a) ga.value ef.rising ef.other ga.fits in
        let gb = progress b ((p, term_type a) ∷ scope) (suc p + size a) ds ((p, ga.value) ∷ vars) (child_env 1 env) ty.2
        (refl, bound, vf) (let_sees_body S.ceiling S.device ds env t a b ef) in
        let_gives t a b p ds vars env ga.value ga.tree ty.0 ga.is ga.formed gb

    pub progress_all : (xs : Terms) (scope : Scope) (p i : ℕ) (ds : List ℕ) (vars : Vars) (env : Env)
        → HaveTypes D scope p xs → VarsFit S.ceiling S.device ds scope vars
        → FitsEnv S.ceiling S.device ds (λ tree. FitTrees S.ceiling xs (kids_from i tree)) env
        → GiveAll S.ceiling S.device ds (types_of xs) (FitTrees S.ceiling xs) (eval_all S p i xs vars env)
    progress_all NoMore scope p i ds vars env ty vf ef =
        record { values = []; trees = Done; are = refl; fit = tt; formed = tt }
    progress_all (More x xs) scope p i ds vars env ty vf ef =
        let first = progress x scope p ds vars (child_env i env) ty.0 vf
        (first_sees S.ceiling S.device ds env i x xs ef) in
        let rest = progress_all xs scope (p + size x) (suc i) ds vars env ty.1 vf
        (rest_see S.ceiling S.device ds env i x xs ef) in
        let is = first.is in
        let are = rest.are in
        record {
          values = first.value ∷ rest.values;
          trees = Then first.tree rest.trees;
          are = rw (is, are) refl;
          fit = (first.fits, rest.fit);
          formed = (first.formed, rest.formed);
        }
