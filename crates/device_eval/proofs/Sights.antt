-- Crates above cite this module: environments and variables that fit, and what nodes read of them.
use Rattle.std.proofs.Common.{◌≡◌, ℕ, zero, suc, List, [], ◌∷◌, map, refl, ◌∙◌, ap, subst, Bool, true, false, Option, Some, None, option_map, nat_eq, nat_lt}
use Rattle.std.specs.Prelude.{filter}
use Rattle.std.proofs.lemmas.Bool.{cond_both}
use Rattle.fc_values.specs.Types.{LocalType, IntType, ValueType, TypeLocal, TypeField}
use Rattle.fc_values.specs.Values.{LocalValue, Fits}
use Rattle.fc_values.specs.Fields.{Entries, AnyValue, ValueLocal, ValueField, devices, Rises, AllFit, FitsOver, with_entry, restricted, is_in, with_number}
use Rattle.fc_values.specs.Trees.{Tree, Trees, Keep, Done, Then, kept_of, nth_tree, child}
use Rattle.fc_nodes.specs.Typing.{Scope, type_at}
use Rattle.fc_nodes.specs.Flat.{OneMore}
use Rattle.alignment.specs.Environments.{NearTree, Env, near_by, child_env, keeps_truth, own_where, branch_env, near_numbers}
use Rattle.alignment.specs.Scopes.{weights, Vars, variable_at}
use Rattle.device_eval.specs.Neighbours.{kept_there}
use Rattle.device_eval.specs.Conditions.{EachNear, AllLight, FitsEnv, VariableFits, VarsFit}
use Rattle.value_trees.specs.Copies.{WhereSome}
use Rattle.fc_values.proofs.Numbers.{stays, Part, part_none, part_skip, part_keep, rises_part, not_in_part, still_stays, all_stay}

-- the trees are replaced by kids
module _ (P Q : Tree → Type 0) (i : ℕ) (f : (t : Tree) → P t → Q (child i t)) where
  own_kid : (o : Option Tree) → WhereSome P o → WhereSome Q (option_map (child i) o)
  own_kid None h = tt
  own_kid (Some t) h = f t h

  near_kid : (ns : List NearTree) → EachNear P ns → EachNear Q (map (near_by (child i)) ns)
  near_kid [] h = tt
  near_kid (n ∷ ns) h = (f n.2 h.0, near_kid ns h.1)

  light_kid : (ceiling : ℕ) (ns : List NearTree) → AllLight ceiling ns → AllLight ceiling (map (near_by (child i)) ns)
  light_kid ceiling [] h = tt
  light_kid ceiling (n ∷ ns) h = (h.0, light_kid ceiling ns h.1)

  numbers_kid : (ns : List NearTree) → near_numbers (map (near_by (child i)) ns) ≡ near_numbers ns
  numbers_kid [] = refl
  numbers_kid (n ∷ ns) = ap (λ (xs : List ℕ). n.0 ∷ xs) (numbers_kid ns)

  pub env_kid : (ceiling device : ℕ) (ds : List ℕ) (env : Env) → FitsEnv ceiling device ds P env → FitsEnv ceiling device ds Q (child_env i env)
  env_kid ceiling device ds env h = record {
    own = own_kid env.own h.own;
    near = near_kid env.near h.near;
    light = light_kid ceiling env.near h.light;
    numbers = numbers_kid env.near ∙ h.numbers;
    rising = h.rising;
    other = h.other;
  }

-- trees of another kind
module _ (P Q : Tree → Type 0) (f : (t : Tree) → P t → Q t) where
  own_as : (o : Option Tree) → WhereSome P o → WhereSome Q o
  own_as None h = tt
  own_as (Some t) h = f t h

  pub near_as : (ns : List NearTree) → EachNear P ns → EachNear Q ns
  near_as [] h = tt
  near_as (n ∷ ns) h = (f n.2 h.0, near_as ns h.1)

  pub env_as : (ceiling device : ℕ) (ds : List ℕ) (env : Env) → FitsEnv ceiling device ds P env → FitsEnv ceiling device ds Q env
  env_as ceiling device ds env h = record {
    own = own_as env.own h.own;
    near = near_as env.near h.near;
    light = h.light;
    numbers = h.numbers;
    rising = h.rising;
    other = h.other;
  }

-- those that took the same branch
module _ (P : Tree → Type 0) (b : Bool) where
  abbrev pub InBranch : Tree → Type 0
  InBranch t = P t × (keeps_truth b (kept_of t) ≡ true)

  abbrev takes : NearTree → Bool
  takes n = keeps_truth b (kept_of n.2)

  own_branch : (o : Option Tree) → WhereSome P o → WhereSome InBranch (own_where (λ t. keeps_truth b (kept_of t)) o)
  own_branch None h = tt
  own_branch (Some t) h = cond_both (keeps_truth b (kept_of t)) (Some t) None (WhereSome InBranch) (λ e. (h, e)) (λ e. tt)

  near_branch : (ns : List NearTree) → EachNear P ns → EachNear InBranch (filter takes ns)
  near_branch [] h = tt
  near_branch (n ∷ ns) h = cond_both (takes n) (n ∷ filter takes ns) (filter takes ns) (EachNear InBranch) (λ e. ((h.0, e), near_branch ns h.1)) (λ e. near_branch ns h.1)

  light_branch : (ceiling : ℕ) (ns : List NearTree) → AllLight ceiling ns → AllLight ceiling (filter takes ns)
  light_branch ceiling [] h = tt
  light_branch ceiling (n ∷ ns) h = cond_both (takes n) (n ∷ filter takes ns) (filter takes ns) (AllLight ceiling) (λ e. (h.0, light_branch ceiling ns h.1)) (λ e. light_branch ceiling ns h.1)

  part_branch : (ns : List NearTree) → Part (near_numbers (filter takes ns)) (near_numbers ns)
  part_branch [] = part_none
  part_branch (n ∷ ns) = cond_both (takes n) (n ∷ filter takes ns) (filter takes ns) (λ xs. Part (near_numbers xs) (n.0 ∷ near_numbers ns)) (λ e. part_keep n.0 (part_branch ns)) (λ e. part_skip n.0 (part_branch ns))

  abbrev pub those_in : Env → List ℕ
  those_in env = near_numbers (filter takes env.near)

  pub part_of : (ceiling device : ℕ) (ds : List ℕ) (env : Env) → FitsEnv ceiling device ds P env → Part (those_in env) ds
  part_of ceiling device ds env h = subst (λ xs. Part (those_in env) xs) h.numbers (part_branch env.near)

  pub env_branch : (ceiling device : ℕ) (ds : List ℕ) (env : Env) → FitsEnv ceiling device ds P env → FitsEnv ceiling device (those_in env) InBranch (branch_env b env)
  env_branch ceiling device ds env h = record {
    own = own_branch env.own h.own;
    near = near_branch env.near h.near;
    light = light_branch ceiling env.near h.light;
    numbers = refl;
    rising = rises_part (part_of ceiling device ds env h) h.rising;
    other = not_in_part device (part_of ceiling device ds env h) h.other;
  }

-- kids one after another
abbrev pub trees_from : ℕ → Trees → Trees
trees_from zero ts = ts
trees_from (suc i) Done = Done
trees_from (suc i) (Then t ts) = trees_from i ts

abbrev pub kids_from : ℕ → Tree → Trees
kids_from i (Keep v ts) = trees_from i ts

module _ (P : Tree → Type 0) (Q : Trees → Type 0) where
  first_tree : (i : ℕ) (ts : Trees) → OneMore P Q (trees_from i ts) → P (nth_tree i ts)
  first_tree zero Done h = absurd h
  first_tree zero (Then t ts) h = h.0
  first_tree (suc i) Done h = absurd h
  first_tree (suc i) (Then t ts) h = first_tree i ts h

  rest_trees : (i : ℕ) (ts : Trees) → OneMore P Q (trees_from i ts) → Q (trees_from (suc i) ts)
  rest_trees zero Done h = absurd h
  rest_trees zero (Then t ts) h = h.1
  rest_trees (suc i) Done h = absurd h
  rest_trees (suc i) (Then t ts) h = rest_trees i ts h

  pub first_kid : (i : ℕ) (t : Tree) → OneMore P Q (kids_from i t) → P (child i t)
  first_kid i (Keep v ts) h = first_tree i ts h

  pub rest_kids : (i : ℕ) (t : Tree) → OneMore P Q (kids_from i t) → Q (kids_from (suc i) t)
  rest_kids i (Keep v ts) h = rest_trees i ts h

-- entries
pub fit_with : (ceiling : ℕ) (s : LocalType) (d : ℕ) (v : LocalValue) (es : Entries) → Fits ceiling s v → AllFit ceiling s es → AllFit ceiling s (with_entry d v es)
fit_with ceiling s d v [] f h = (f, tt)
fit_with ceiling s d v (e ∷ es) f h = cond_both (nat_lt d e.0) ((d, v) ∷ e ∷ es) (e ∷ with_entry d v es) (AllFit ceiling s) (λ t. (f, h)) (λ t. (h.0, fit_with ceiling s d v es f h.1))

pub devices_weights : (ns : List NearTree) → devices (weights ns) ≡ near_numbers ns
devices_weights [] = refl
devices_weights (n ∷ ns) = ap (λ (xs : List ℕ). n.0 ∷ xs) (devices_weights ns)

pub fit_weights : (ceiling : ℕ) (ns : List NearTree) → AllLight ceiling ns → AllFit ceiling IntType (weights ns)
fit_weights ceiling [] h = tt
fit_weights ceiling (n ∷ ns) h = (h.0, fit_weights ceiling ns h.1)

-- a tree that keeps a value of a type
pub record Keeps (ceiling : ℕ) (s : LocalType) (t : Tree) : Type 0 where
  pub value : LocalValue
  pub is : kept_of t ≡ Some value
  pub fits : Fits ceiling s value

-- what the neighbours keep
pub record KeptThere (ceiling : ℕ) (s : LocalType) (ns : List NearTree) : Type 0 where
  pub entries : Entries
  pub are : kept_there ns ≡ Some entries
  pub numbers : devices entries ≡ near_numbers ns
  pub fit : AllFit ceiling s entries

pub each_keeps : (ceiling : ℕ) (s : LocalType) (ns : List NearTree) → EachNear (Keeps ceiling s) ns → KeptThere ceiling s ns
each_keeps ceiling s [] h = record { entries = []; are = refl; numbers = refl; fit = tt }
each_keeps ceiling s (n ∷ ns) h =
    let first = h.0 in
    let rest = each_keeps ceiling s ns h.1 in
    record {
      entries = (n.0, first.value) ∷ rest.entries;
      are = rw (first.is, rest.are) refl;
      numbers = ap (λ (xs : List ℕ). n.0 ∷ xs) rest.numbers;
      fit = (first.fits, rest.fit);
    }

module _ (ceiling device : ℕ) {ms ds : List ℕ} (p : Part ms ds) (r : Rises ds) (other : is_in device ds ≡ false) where
  pub variable_part : (t : ValueType) (v : AnyValue) → VariableFits ceiling device ds t v → VariableFits ceiling device ms t v
  variable_part (TypeLocal t) (ValueLocal v) h = h
  variable_part (TypeField t) (ValueField es) h = (h.0, still_stays device p r other (devices es) h.1)
  variable_part (TypeLocal t) (ValueField es) h = absurd h
  variable_part (TypeField t) (ValueLocal es) h = absurd h

  pub vars_part : (scope : Scope) (vars : Vars) → VarsFit ceiling device ds scope vars → VarsFit ceiling device ms scope vars
  vars_part [] [] h = tt
  vars_part (b ∷ bs) (v ∷ vs) h = (h.0, variable_part b.1 v.1 h.1, vars_part bs vs h.2)
  vars_part [] (v ∷ vs) h = absurd h
  vars_part (b ∷ bs) [] h = absurd h

-- a value that is bound
pub bound_fits : (ceiling device : ℕ) (ds : List ℕ) (t : ValueType) (v : AnyValue) → Rises ds → is_in device ds ≡ false → FitsOver ceiling (with_number device ds) t v → VariableFits ceiling device ds t v
bound_fits ceiling device ds (TypeLocal t) (ValueLocal v) r other h = h
bound_fits ceiling device ds (TypeField t) (ValueField es) r other h = (h.1, ap (filter (stays device ds)) h.0 ∙ all_stay device ds r other)
bound_fits ceiling device ds (TypeLocal t) (ValueField es) r other h = absurd h
bound_fits ceiling device ds (TypeField t) (ValueLocal es) r other h = absurd h

-- a variable that is read
pub record Reads (ceiling device : ℕ) (ds : List ℕ) (t : ValueType) (o : Option AnyValue) : Type 0 where
  pub value : AnyValue
  pub is : o ≡ Some value
  pub fits : VariableFits ceiling device ds t value

pub variable_there : (ceiling device : ℕ) (ds : List ℕ) (scope : Scope) (vars : Vars) (n : ℕ) (t : ValueType) → type_at n scope ≡ Some t → VarsFit ceiling device ds scope vars → Reads ceiling device ds t (variable_at n vars)
variable_there ceiling device ds [] [] n t e h = absurd cc
variable_there ceiling device ds [] (v ∷ vs) n t e h = absurd h
variable_there ceiling device ds (b ∷ bs) [] n t e h = absurd h
variable_there ceiling device ds (b ∷ bs) (v ∷ vs) n t e h = by_test (nat_eq b.0 n) refl (λ e'. variable_there ceiling device ds bs vs n t e' h.2)
  where
    by_test : (k : Bool) → nat_eq b.0 n ≡ k → (type_at n bs ≡ Some t → Reads ceiling device ds t (variable_at n vs)) → Reads ceiling device ds t (variable_at n (v ∷ vs))
    by_test true k f =
        let k' : nat_eq v.0 n ≡ true = rw h.0 at k in
        let e' : Some b.1 ≡ Some t = rw k at e in
        let same : b.1 ≡ t = cc in
        record { value = v.1; is = rw k' refl; fits = subst (λ u. VariableFits ceiling device ds u v.1) same h.1 }
    by_test false k f =
        let k' : nat_eq v.0 n ≡ false = rw h.0 at k in
        let rest = f (rw k at e) in
        record { value = rest.value; is = rw k' rest.is; fits = rest.fits }

module _ (device : ℕ) (ns : List ℕ) where
  abbrev stays_near : ℕ × LocalValue → Bool
  stays_near e = stays device ns e.0

  devices_restricted : (es : Entries) → devices (filter stays_near es) ≡ filter (stays device ns) (devices es)
  devices_restricted [] = refl
  devices_restricted (e ∷ es) = by_test (stays device ns e.0) refl (devices_restricted es)
    where
      by_test : (b : Bool) → stays device ns e.0 ≡ b → devices (filter stays_near es) ≡ filter (stays device ns) (devices es)
          → devices (filter stays_near (e ∷ es)) ≡ filter (stays device ns) (devices (e ∷ es))
      by_test true t h = rw t (ap (λ (xs : List ℕ). e.0 ∷ xs) h)
      by_test false t h = rw t h

  fit_restricted : (ceiling : ℕ) (s : LocalType) (es : Entries) → AllFit ceiling s es → AllFit ceiling s (filter stays_near es)
  fit_restricted ceiling s [] h = tt
  fit_restricted ceiling s (e ∷ es) h =
      cond_both (stays_near e) (e ∷ filter stays_near es) (filter stays_near es) (AllFit ceiling s)
      (λ t. (h.0, fit_restricted ceiling s es h.1)) (λ t. fit_restricted ceiling s es h.1)

  pub restricted_fits : (ceiling : ℕ) (t : ValueType) (v : AnyValue) → VariableFits ceiling device ns t v → FitsOver ceiling (with_number device ns) t (restricted device ns v)
  restricted_fits ceiling (TypeLocal t) (ValueLocal v) h = h
  restricted_fits ceiling (TypeField t) (ValueField es) h = (devices_restricted es ∙ h.1, fit_restricted ceiling t es h.0)
  restricted_fits ceiling (TypeLocal t) (ValueField es) h = absurd h
  restricted_fits ceiling (TypeField t) (ValueLocal v) h = absurd h
