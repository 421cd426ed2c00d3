-- Evaluation as rules, one for each kind of node. A term is stuck where no rule applies.
use Rattle.std.specs.Prelude.{ℕ, suc, true, false, ◌≡◌, ◌+◌, List, [], ◌∷◌, min, Some, None, slice_get}
use Rattle.fc_values.specs.declared.builtins.Builtin.{Builtin}
use Rattle.fc_values.specs.Types.{ValueType}
use Rattle.fc_values.specs.Values.{LocalValue, IntValue, BoolValue}
use Rattle.fc_values.specs.Fields.{Entries, AnyValue, ValueLocal, ValueField, with_entry, restricted}
use Rattle.fc_values.specs.Builtins.{builtin_value}
use Rattle.fc_values.specs.Trees.{Tree, Trees, Keep, Done, Then, leaf}
use Rattle.fc_nodes.specs.Terms.{Literal, Variable, Sense, Uid, NbrLink, ByRep, ByShare, Term}
use Rattle.fc_nodes.specs.Terms.{Terms, Plain, Apply, Nbr, Evolve, If, Let, NoMore, More, size}
use Rattle.alignment.specs.Environments.{Env, child_env, branch_env, near_numbers}
use Rattle.alignment.specs.Scopes.{weights, Vars, variable_at}
use Rattle.device_eval.specs.Neighbours.{kept_there}
use Rattle.device_eval.specs.Evaluation.{Situation, own_or}

-- `Evaluates S p t vars env v tree`: in the situation S the term t, whose root stands at place p, has the value v and
-- the tree, where the binders in scope have the values vars, and env has the trees of t in the exports of the device
-- and its aligned neighbours
mutual
  pub data Evaluates (S : Situation) : ℕ → Term → Vars → Env → AnyValue → Tree → Type 0 where
    -- a number or truth value is itself
    literal : {p : ℕ} {vars : Vars} {env : Env} (t : ValueType) (v : LocalValue)
        → Evaluates S p (Plain t (Literal v)) vars env (ValueLocal v) leaf
    -- a variable has its value; a field is restricted to the aligned neighbours and the device
    variable : {p : ℕ} {vars : Vars} {env : Env} (t : ValueType) (n : ℕ) (v : AnyValue) → variable_at n vars ≡ Some v
        → Evaluates S p (Plain t (Variable n)) vars env (restricted S.device (near_numbers env.near) v) leaf
    -- an input has its value in the copy
    sense : {p : ℕ} {vars : Vars} {env : Env} (t : ValueType) (i : ℕ) (v : LocalValue) → slice_get S.inputs i ≡ Some v
        → Evaluates S p (Plain t (Sense i)) vars env (ValueLocal v) leaf
    -- the device's number, cut at the ceiling
    uid : {p : ℕ} {vars : Vars} {env : Env} (t : ValueType)
        → Evaluates S p (Plain t Uid) vars env (ValueLocal (IntValue (min S.device S.ceiling))) leaf
    -- the weight of each aligned neighbour, and the least weight at the device itself
    nbr_link : {p : ℕ} {vars : Vars} {env : Env} (t : ValueType)
        → Evaluates S p (Plain t NbrLink) vars env (ValueField
        (with_entry S.device (IntValue S.least) (weights env.near))) leaf
    -- the arguments in order, and then the builtin
    builtin : {p : ℕ} {vars : Vars} {env : Env} (t : ValueType) (o : Builtin) (xs : Terms) (vs : List AnyValue)
        (ts : Trees) (v : AnyValue)
        → EvaluateAll S (suc p) 0 xs vars env vs ts → builtin_value o S.ceiling S.device vs ≡ Some v
        → Evaluates S p (Apply t o xs) vars env v (Keep None ts)
    -- each neighbour's kept value, and the new value at the device; it is what is kept
    nbr : {p : ℕ} {vars : Vars} {env : Env} (t : ValueType) (a : Term) (v : LocalValue) (ta : Tree) (es : Entries)
        → Evaluates S (suc p) a vars (child_env 0 env) (ValueLocal v) ta → kept_there env.near ≡ Some es
        → Evaluates S p (Nbr t a) vars env (ValueField (with_entry S.device v es)) (Keep (Some v) (Then ta Done))
    -- the variable is what the own tree keeps, or the first value where there is no own tree; the result is kept
    rep : {p : ℕ} {vars : Vars} {env : Env} (t : ValueType) (a b : Term) (first x v : LocalValue) (ta tb : Tree)
        → Evaluates S (suc p) a vars (child_env 0 env) (ValueLocal first) ta → own_or env.own first ≡ Some x
        → Evaluates S (suc p + size a) b ((p, ValueLocal x) ∷ vars) (child_env 1 env) (ValueLocal v) tb
        → Evaluates S p (Evolve t ByRep a b) vars env (ValueLocal v) (Keep (Some v) (Then ta (Then tb Done)))
    -- the same, but the variable is the field of that and of what each neighbour keeps
    share : {p : ℕ} {vars : Vars} {env : Env} (t : ValueType) (a b : Term) (first x v : LocalValue) (es : Entries)
        (ta tb : Tree)
        → Evaluates S (suc p) a vars (child_env 0 env) (ValueLocal first) ta → own_or env.own first ≡ Some x
        → kept_there env.near ≡ Some es
        → Evaluates S (suc p + size a) b ((p, ValueField (with_entry S.device x es)) ∷ vars) (child_env 1 env)
        (ValueLocal v) tb
        → Evaluates S p (Evolve t ByShare a b) vars env (ValueLocal v) (Keep (Some v) (Then ta (Then tb Done)))
    -- the branch that the condition names, in the environment of those that took the same branch
    if_true : {p : ℕ} {vars : Vars} {env : Env} (t : ValueType) (c a b : Term) (v : AnyValue) (tc tk : Tree)
        → Evaluates S (suc p) c vars (child_env 0 env) (ValueLocal (BoolValue true)) tc
        → Evaluates S (suc p + size c) a vars (child_env 1 (branch_env true env)) v tk
        → Evaluates S p (If t c a b) vars env v (Keep (Some (BoolValue true)) (Then tc (Then tk Done)))
    if_false : {p : ℕ} {vars : Vars} {env : Env} (t : ValueType) (c a b : Term) (v : AnyValue) (tc tk : Tree)
        → Evaluates S (suc p) c vars (child_env 0 env) (ValueLocal (BoolValue false)) tc
        → Evaluates S (suc p + size c + size a) b vars (child_env 1 (branch_env false env)) v tk
        → Evaluates S p (If t c a b) vars env v (Keep (Some (BoolValue false)) (Then tc (Then tk Done)))
    -- the body with the value bound
    binding : {p : ℕ} {vars : Vars} {env : Env} (t : ValueType) (a b : Term) (r v : AnyValue) (ta tb : Tree)
        → Evaluates S (suc p) a vars (child_env 0 env) r ta
        → Evaluates S (suc p + size a) b ((p, r) ∷ vars) (child_env 1 env) v tb
        → Evaluates S p (Let t a b) vars env v (Keep None (Then ta (Then tb Done)))

  -- terms one after another from place p, the first of them the i-th kid
  pub data EvaluateAll (S : Situation) : ℕ → ℕ → Terms → Vars → Env → List AnyValue → Trees → Type 0 where
    none : {p i : ℕ} {vars : Vars} {env : Env} → EvaluateAll S p i NoMore vars env [] Done
    one_more : {p i : ℕ} {vars : Vars} {env : Env} (x : Term) (xs : Terms) (v : AnyValue) (vs : List AnyValue)
        (t : Tree) (ts : Trees)
        → Evaluates S p x vars (child_env i env) v t → EvaluateAll S (p + size x) (suc i) xs vars env vs ts
        → EvaluateAll S p i (More x xs) vars env (v ∷ vs) (Then t ts)
