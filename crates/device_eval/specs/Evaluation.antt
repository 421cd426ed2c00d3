-- Evaluation as a function: the value and the tree of a term, or none where it is stuck.
use Rattle.std.specs.Prelude.{ℕ, suc, Bool, true, false, ◌+◌, List, [], ◌∷◌, min, Option}
use Rattle.std.specs.Prelude.{Some, None, option_map, slice_get}
use Rattle.fc_values.specs.Values.{LocalValue, IntValue, BoolValue, PairValue}
use Rattle.fc_values.specs.Fields.{Entries, AnyValue, ValueLocal, ValueField, with_entry, restricted}
use Rattle.fc_values.specs.Builtins.{builtin_value}
use Rattle.fc_values.specs.Trees.{Tree, Trees, Keep, Done, Then, leaf, kept_of}
use Rattle.fc_nodes.specs.Terms.{Leaf, Literal, Variable, Sense, Uid, NbrLink, Evolution, ByRep, ByShare}
use Rattle.fc_nodes.specs.Terms.{Term, Terms, Plain, Apply, Nbr, Evolve, If, Let, NoMore, More, size}
use Rattle.alignment.specs.Environments.{Env, child_env, branch_env, near_numbers}
use Rattle.alignment.specs.Scopes.{Vars, variable_at, weights}
use Rattle.device_eval.specs.Neighbours.{kept_there}

-- where evaluation happens: the device, the greatest integer, the least weight of a link, and the inputs of the copy
pub record Situation : Type 0 where
  pub device : ℕ
  pub ceiling : ℕ
  pub least : ℕ
  pub inputs : List LocalValue

abbrev pub leaf_value : Situation → Leaf → Vars → Env → Option AnyValue
leaf_value S (Literal v) vars env = Some (ValueLocal v)
leaf_value S (Variable n) vars env = option_map (restricted S.device (near_numbers env.near)) (variable_at n vars)
leaf_value S (Sense i) vars env = option_map ValueLocal (slice_get S.inputs i)
leaf_value S Uid vars env = Some (ValueLocal (IntValue (min S.device S.ceiling)))
leaf_value S NbrLink vars env = Some (ValueField (with_entry S.device (IntValue S.least) (weights env.near)))

-- what the own tree keeps here, or the first value where there is no own tree
abbrev pub own_or : Option Tree → LocalValue → Option LocalValue
own_or None first = Some first
own_or (Some t) first = kept_of t

-- the field of what each neighbour keeps here, and of the device's own value
abbrev pub heard : ℕ → Option LocalValue → Option Entries → Option AnyValue
heard device (Some v) (Some es) = Some (ValueField (with_entry device v es))
heard device _ _ = None

-- what the variable of a `rep` or `share` starts from
abbrev pub evolving : Evolution → ℕ → Env → LocalValue → Option AnyValue
evolving ByRep device env first = option_map ValueLocal (own_or env.own first)
evolving ByShare device env first = heard device (own_or env.own first) (kept_there env.near)

-- the outcome of a term: its value and its tree. The outcome of several: their values and their trees
abbrev pub Outcome : Type 0
Outcome = Option (AnyValue × Tree)

abbrev pub Outcomes : Type 0
Outcomes = Option (List AnyValue × Trees)

abbrev pub after : Outcome → (AnyValue → Tree → Outcome) → Outcome
after None f = None
after (Some r) f = f r.0 r.1

abbrev pub after_all : Outcomes → (List AnyValue → Trees → Outcome) → Outcome
after_all None f = None
after_all (Some r) f = f r.0 r.1

abbrev pub and_then : Outcome → Outcomes → Outcomes
and_then None os = None
and_then (Some r) None = None
and_then (Some r) (Some rs) = Some (r.0 ∷ rs.0, Then r.1 rs.1)

abbrev pub on_some : {A : Type 0} → Option A → (A → Outcome) → Outcome
on_some None f = None
on_some (Some x) f = f x

abbrev pub on_local : AnyValue → (LocalValue → Outcome) → Outcome
on_local (ValueLocal v) f = f v
on_local (ValueField es) f = None

abbrev pub on_truth : AnyValue → (Bool → Outcome) → Outcome
on_truth (ValueLocal (BoolValue b)) f = f b
on_truth (ValueLocal (IntValue n)) f = None
on_truth (ValueLocal (PairValue x y)) f = None
on_truth (ValueField es) f = None

abbrev pub pick : {A : Type 0} → Bool → A → A → A
pick true a b = a
pick false a b = b

-- the outcome of a term whose root stands at place p
abbrev mutual
  pub eval_of : Situation → ℕ → Term → Vars → Env → Outcome
  eval_of S p (Plain t l) vars env = on_some (leaf_value S l vars env) (λ v. Some (v, leaf))
  eval_of S p (Apply t o xs) vars env =
      after_all (eval_all S (suc p) 0 xs vars env) (λ vs ts.
      on_some (builtin_value o S.ceiling S.device vs) (λ v. Some (v, Keep None ts)))
  eval_of S p (Nbr t a) vars env =
      after (eval_of S (suc p) a vars (child_env 0 env)) (λ r ta.
      on_local r (λ v. on_some (heard S.device (Some v) (kept_there env.near))
      (λ f. Some (f, Keep (Some v) (Then ta Done)))))
  eval_of S p (Evolve t e a b) vars env =
      after (eval_of S (suc p) a vars (child_env 0 env)) (λ r ta.
      on_local r (λ first. on_some (evolving e S.device env first) (λ x.
      after (eval_of S (suc p + size a) b ((p, x) ∷ vars) (child_env 1 env)) (λ s tb.
      on_local s (λ v. Some (ValueLocal v, Keep (Some v) (Then ta (Then tb Done))))))))
  eval_of S p (If t c a b) vars env =
      after (eval_of S (suc p) c vars (child_env 0 env)) (λ r tc.
      on_truth r (λ k.
      after (pick k
      (eval_of S (suc p + size c) a vars (child_env 1 (branch_env k env)))
      (eval_of S (suc p + size c + size a) b vars (child_env 1 (branch_env k env)))) (λ v tk.
      Some (v, Keep (Some (BoolValue k)) (Then tc (Then tk Done))))))
  eval_of S p (Let t a b) vars env =
      after (eval_of S (suc p) a vars (child_env 0 env)) (λ r ta.
      after (eval_of S (suc p + size a) b ((p, r) ∷ vars) (child_env 1 env)) (λ v tb.
      Some (v, Keep None (Then ta (Then tb Done)))))

  pub eval_all : Situation → ℕ → ℕ → Terms → Vars → Env → Outcomes
  eval_all S p i NoMore vars env = Some ([], Done)
  eval_all S p i (More x xs) vars env =
      and_then (eval_of S p x vars (child_env i env)) (eval_all S (p + size x) (suc i) xs vars env)
