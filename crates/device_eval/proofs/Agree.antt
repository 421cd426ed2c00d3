-- Crates above cite this module: the rules and the function of evaluation agree, so a term has at most one outcome.
use Rattle.std.proofs.Common.{◌≡◌, ℕ, suc, ◌+◌, List, ◌∷◌, refl, ap, subst, Bool, true, false, Option, Some, None}
use Rattle.std.specs.Prelude.{option_map, slice_get}
use Rattle.fc_values.specs.Types.{ValueType}
use Rattle.fc_values.specs.Values.{LocalValue, IntValue, BoolValue, PairValue}
use Rattle.fc_values.specs.Fields.{Entries, AnyValue, ValueLocal, ValueField, with_entry, restricted}
use Rattle.fc_values.specs.Builtins.{builtin_value}
use Rattle.fc_values.specs.Trees.{Tree, Trees, Keep, Done, Then}
use Rattle.fc_nodes.specs.Terms.{Leaf, Literal, Variable, Sense, Uid, NbrLink, ByRep, ByShare, Term, Terms, Plain, Apply, Nbr, Evolve, If, Let, NoMore, More, size}
use Rattle.alignment.specs.Environments.{Env, child_env, branch_env, near_numbers}
use Rattle.device_eval.specs.Neighbours.{kept_there}
use Rattle.alignment.specs.Scopes.{Vars, variable_at}
use Rattle.device_eval.specs.Evaluation.{Situation, own_or, heard, eval_of, eval_all, after, after_all, and_then, on_some, on_local, on_truth, pick, Outcome, Outcomes}
use Rattle.device_eval.specs.Rules.{Evaluates, EvaluateAll, literal, variable, sense, uid, nbr_link, builtin, nbr, rep, share, if_true, if_false, binding, none, one_more}

-- what the rules give, the function gives
module _ (S : Situation) where
  mutual
    pub rule_gives : {p : ℕ} {t : Term} {vars : Vars} {env : Env} {v : AnyValue} {tree : Tree} → Evaluates S p t vars env v tree → eval_of S p t vars env ≡ Some (v, tree)
    rule_gives (literal t v) = refl
    rule_gives (variable t n v e) = rw e refl
    rule_gives (sense t i v e) = rw e refl
    rule_gives (uid t) = refl
    rule_gives (nbr_link t) = refl
    rule_gives (builtin t o xs vs ts v es e) = let h = rules_give es in rw (h, e) refl
    rule_gives (nbr t a v ta es ea e) = let h = rule_gives ea in rw (h, e) refl
    rule_gives (rep t a b first x v ta tb ea e eb) = let h = rule_gives ea in let h' = rule_gives eb in rw (h, e, h') refl
    rule_gives (share t a b first x v es ta tb ea e e' eb) = let h = rule_gives ea in let h' = rule_gives eb in rw (h, e, e', h') refl
    rule_gives (if_true t c a b v tc tk ec ea) = let h = rule_gives ec in let h' = rule_gives ea in rw (h, h') refl
    rule_gives (if_false t c a b v tc tk ec eb) = let h = rule_gives ec in let h' = rule_gives eb in rw (h, h') refl
    rule_gives (binding t a b r v ta tb ea eb) = let h = rule_gives ea in let h' = rule_gives eb in rw (h, h') refl

    pub rules_give : {p i : ℕ} {xs : Terms} {vars : Vars} {env : Env} {vs : List AnyValue} {ts : Trees} → EvaluateAll S p i xs vars env vs ts → eval_all S p i xs vars env ≡ Some (vs, ts)
    rules_give none = refl
    rules_give (one_more x xs v vs t ts e es) = let h = rule_gives e in let h' = rules_give es in rw (h, h') refl

-- a fact of an outcome, if it isn't stuck
abbrev IfGives : Outcome → (AnyValue → Tree → Type 0) → Type 0
IfGives None P = Unit {0}
IfGives (Some r) P = P r.0 r.1

abbrev IfAllGive : Outcomes → (List AnyValue → Trees → Type 0) → Type 0
IfAllGive None P = Unit {0}
IfAllGive (Some r) P = P r.0 r.1

after_gives : (o : Outcome) (f : AnyValue → Tree → Outcome) (Q P : AnyValue → Tree → Type 0) → IfGives o Q → ((v : AnyValue) (t : Tree) → Q v t → IfGives (f v t) P) → IfGives (after o f) P
after_gives None f Q P h k = tt
after_gives (Some r) f Q P h k = k r.0 r.1 h

after_all_gives : (o : Outcomes) (f : List AnyValue → Trees → Outcome) (Q : List AnyValue → Trees → Type 0) (P : AnyValue → Tree → Type 0) → IfAllGive o Q → ((vs : List AnyValue) (ts : Trees) → Q vs ts → IfGives (f vs ts) P) → IfGives (after_all o f) P
after_all_gives None f Q P h k = tt
after_all_gives (Some r) f Q P h k = k r.0 r.1 h

and_then_gives : (o : Outcome) (os : Outcomes) (Q : AnyValue → Tree → Type 0) (Qs P : List AnyValue → Trees → Type 0) → IfGives o Q → IfAllGive os Qs → ((v : AnyValue) (t : Tree) (vs : List AnyValue) (ts : Trees) → Q v t → Qs vs ts → P (v ∷ vs) (Then t ts)) → IfAllGive (and_then o os) P
and_then_gives None os Q Qs P h hs k = tt
and_then_gives (Some r) None Q Qs P h hs k = tt
and_then_gives (Some r) (Some rs) Q Qs P h hs k = k r.0 r.1 rs.0 rs.1 h hs

local_gives : (v : AnyValue) (f : LocalValue → Outcome) (Q : AnyValue → Type 0) (P : AnyValue → Tree → Type 0) → Q v → ((x : LocalValue) → Q (ValueLocal x) → IfGives (f x) P) → IfGives (on_local v f) P
local_gives (ValueLocal x) f Q P h k = k x h
local_gives (ValueField es) f Q P h k = tt

truth_gives : (v : AnyValue) (f : Bool → Outcome) (Q : AnyValue → Type 0) (P : AnyValue → Tree → Type 0) → Q v → ((b : Bool) → Q (ValueLocal (BoolValue b)) → IfGives (f b) P) → IfGives (on_truth v f) P
truth_gives (ValueLocal (IntValue n)) f Q P h k = tt
truth_gives (ValueLocal (BoolValue b)) f Q P h k = k b h
truth_gives (ValueLocal (PairValue x y)) f Q P h k = tt
truth_gives (ValueField es) f Q P h k = tt

some_gives : (o : Option AnyValue) (f : AnyValue → Outcome) (P : AnyValue → Tree → Type 0) → ((x : AnyValue) → o ≡ Some x → IfGives (f x) P) → IfGives (on_some o f) P
some_gives None f P k = tt
some_gives (Some x) f P k = k x refl

mapped_gives : {A : Type 0} (g : A → AnyValue) (o : Option A) (f : AnyValue → Outcome) (P : AnyValue → Tree → Type 0) → ((x : A) → o ≡ Some x → IfGives (f (g x)) P) → IfGives (on_some (option_map g o) f) P
mapped_gives g None f P k = tt
mapped_gives g (Some x) f P k = k x refl

heard_gives : (d : ℕ) (o : Option LocalValue) (n : Option Entries) (f : AnyValue → Outcome) (P : AnyValue → Tree → Type 0)
    → ((x : LocalValue) (es : Entries) → o ≡ Some x → n ≡ Some es → IfGives (f (ValueField (with_entry d x es))) P) → IfGives (on_some (heard d o n) f) P
heard_gives d None n f P k = tt
heard_gives d (Some x) None f P k = tt
heard_gives d (Some x) (Some es) f P k = k x es refl refl

sent_gives : (d : ℕ) (x : LocalValue) (n : Option Entries) (f : AnyValue → Outcome) (P : AnyValue → Tree → Type 0)
    → ((es : Entries) → n ≡ Some es → IfGives (f (ValueField (with_entry d x es))) P) → IfGives (on_some (heard d (Some x) n) f) P
sent_gives d x None f P k = tt
sent_gives d x (Some es) f P k = k es refl

-- what the function gives, the rules give
module _ (S : Situation) where
  leaf_rule : (t : ValueType) (l : Leaf) (p : ℕ) (vars : Vars) (env : Env) → IfGives (eval_of S p (Plain t l) vars env) (Evaluates S p (Plain t l) vars env)
  leaf_rule t (Literal v) p vars env = literal t v
  leaf_rule t (Variable n) p vars env = mapped_gives (restricted S.device (near_numbers env.near)) (variable_at n vars) _ (Evaluates S p (Plain t (Variable n)) vars env) (λ v e. variable t n v e)
  leaf_rule t (Sense i) p vars env = mapped_gives ValueLocal (slice_get S.inputs i) _ (Evaluates S p (Plain t (Sense i)) vars env) (λ v e. sense t i v e)
  leaf_rule t Uid p vars env = uid t
  leaf_rule t NbrLink p vars env = nbr_link t

  branch_rule : (t : ValueType) (c a b : Term) (p : ℕ) (vars : Vars) (env : Env) (tc : Tree) (k : Bool) → Evaluates S (suc p) c vars (child_env 0 env) (ValueLocal (BoolValue k)) tc
      → IfGives (eval_of S (suc p + size c) a vars (child_env 1 (branch_env true env))) (Evaluates S (suc p + size c) a vars (child_env 1 (branch_env true env)))
      → IfGives (eval_of S (suc p + size c + size a) b vars (child_env 1 (branch_env false env))) (Evaluates S (suc p + size c + size a) b vars (child_env 1 (branch_env false env)))
      → IfGives (after (pick k (eval_of S (suc p + size c) a vars (child_env 1 (branch_env k env))) (eval_of S (suc p + size c + size a) b vars (child_env 1 (branch_env k env)))) (λ v tk.
      Some (v, Keep (Some (BoolValue k)) (Then tc (Then tk Done))))) (Evaluates S p (If t c a b) vars env)
  branch_rule t c a b p vars env tc true hc ha hb =
      after_gives (eval_of S (suc p + size c) a vars (child_env 1 (branch_env true env))) _ (Evaluates S (suc p + size c) a vars (child_env 1 (branch_env true env))) (Evaluates S p (If t c a b) vars env) ha (λ v tk h.
      if_true t c a b v tc tk hc h)
  branch_rule t c a b p vars env tc false hc ha hb =
      after_gives (eval_of S (suc p + size c + size a) b vars (child_env 1 (branch_env false env))) _ (Evaluates S (suc p + size c + size a) b vars (child_env 1 (branch_env false env))) (Evaluates S p (If t c a b) vars env) hb (λ v tk h.
      if_false t c a b v tc tk hc h)

  mutual
    outcome_rule : (t : Term) (p : ℕ) (vars : Vars) (env : Env) → IfGives (eval_of S p t vars env) (Evaluates S p t vars env)
    outcome_rule (Plain t l) p vars env = leaf_rule t l p vars env
    outcome_rule (Apply t o xs) p vars env =
        let P = Evaluates S p (Apply t o xs) vars env in
        after_all_gives (eval_all S (suc p) 0 xs vars env) _ (EvaluateAll S (suc p) 0 xs vars env) P (outcomes_rule xs (suc p) 0 vars env) (λ vs ts h.
        some_gives (builtin_value o S.ceiling S.device vs) _ P (λ v e. builtin t o xs vs ts v h e))
    outcome_rule (Nbr t a) p vars env =
        let P = Evaluates S p (Nbr t a) vars env in
        let Q = Evaluates S (suc p) a vars (child_env 0 env) in
        after_gives (eval_of S (suc p) a vars (child_env 0 env)) _ Q P (outcome_rule a (suc p) vars (child_env 0 env)) (λ r ta h.
        local_gives r _ (λ w. Q w ta) P h (λ v hv.
        sent_gives S.device v (kept_there env.near) _ P (λ es e. nbr t a v ta es hv e)))
    outcome_rule (Evolve t ByRep a b) p vars env =
        let P = Evaluates S p (Evolve t ByRep a b) vars env in
        let Q = Evaluates S (suc p) a vars (child_env 0 env) in
        after_gives (eval_of S (suc p) a vars (child_env 0 env)) _ Q P (outcome_rule a (suc p) vars (child_env 0 env)) (λ r ta h.
        local_gives r _ (λ w. Q w ta) P h (λ first hf.
        mapped_gives ValueLocal (own_or env.own first) _ P (λ x e.
        after_gives (eval_of S (suc p + size a) b ((p, ValueLocal x) ∷ vars) (child_env 1 env)) _ (Evaluates S (suc p + size a) b ((p, ValueLocal x) ∷ vars) (child_env 1 env)) P (outcome_rule b (suc p + size a) ((p, ValueLocal x) ∷ vars) (child_env 1 env)) (λ s tb hb.
        local_gives s _ (λ w. Evaluates S (suc p + size a) b ((p, ValueLocal x) ∷ vars) (child_env 1 env) w tb) P hb (λ v hv.
        rep t a b first x v ta tb hf e hv)))))
    outcome_rule (Evolve t ByShare a b) p vars env =
        let P = Evaluates S p (Evolve t ByShare a b) vars env in
        let Q = Evaluates S (suc p) a vars (child_env 0 env) in
        after_gives (eval_of S (suc p) a vars (child_env 0 env)) _ Q P (outcome_rule a (suc p) vars (child_env 0 env)) (λ r ta h.
        local_gives r _ (λ w. Q w ta) P h (λ first hf.
        heard_gives S.device (own_or env.own first) (kept_there env.near) _ P (λ x es e e'.
        let f : AnyValue = ValueField (with_entry S.device x es) in
        after_gives (eval_of S (suc p + size a) b ((p, f) ∷ vars) (child_env 1 env)) _ (Evaluates S (suc p + size a) b ((p, f) ∷ vars) (child_env 1 env)) P (outcome_rule b (suc p + size a) ((p, f) ∷ vars) (child_env 1 env)) (λ s tb hb.
        local_gives s _ (λ w. Evaluates S (suc p + size a) b ((p, f) ∷ vars) (child_env 1 env) w tb) P hb (λ v hv.
        share t a b first x v es ta tb hf e e' hv)))))
    outcome_rule (If t c a b) p vars env =
        let P = Evaluates S p (If t c a b) vars env in
        let Q = Evaluates S (suc p) c vars (child_env 0 env) in
        let hyp = outcome_rule a (suc p + size c) vars (child_env 1 (branch_env true env)) in
        let hyp' = outcome_rule b (suc p + size c + size a) vars (child_env 1 (branch_env false env)) in
        after_gives (eval_of S (suc p) c vars (child_env 0 env)) _ Q P (outcome_rule c (suc p) vars (child_env 0 env)) (λ r tc h.
        truth_gives r _ (λ w. Q w tc) P h (λ k hk. branch_rule t c a b p vars env tc k hk hyp hyp'))
    outcome_rule (Let t a b) p vars env =
        let P = Evaluates S p (Let t a b) vars env in
        after_gives (eval_of S (suc p) a vars (child_env 0 env)) _ (Evaluates S (suc p) a vars (child_env 0 env)) P (outcome_rule a (suc p) vars (child_env 0 env)) (λ r ta ha.
        after_gives (eval_of S (suc p + size a) b ((p, r) ∷ vars) (child_env 1 env)) _ (Evaluates S (suc p + size a) b ((p, r) ∷ vars) (child_env 1 env)) P (outcome_rule b (suc p + size a) ((p, r) ∷ vars) (child_env 1 env)) (λ v tb hb.
        binding t a b r v ta tb ha hb))

    outcomes_rule : (xs : Terms) (p i : ℕ) (vars : Vars) (env : Env) → IfAllGive (eval_all S p i xs vars env) (EvaluateAll S p i xs vars env)
    outcomes_rule NoMore p i vars env = none
    outcomes_rule (More x xs) p i vars env =
        and_then_gives (eval_of S p x vars (child_env i env)) (eval_all S (p + size x) (suc i) xs vars env) (Evaluates S p x vars (child_env i env)) (EvaluateAll S (p + size x) (suc i) xs vars env) (EvaluateAll S p i (More x xs) vars env)
        (outcome_rule x p vars (child_env i env)) (outcomes_rule xs (p + size x) (suc i) vars env) (λ v t vs ts h hs. one_more x xs v vs t ts h hs)

outcome_at : (o : Outcome) (P : AnyValue → Tree → Type 0) (v : AnyValue) (tree : Tree) → IfGives o P → o ≡ Some (v, tree) → P v tree
outcome_at o P v tree h e = subst (λ (r : Outcome). IfGives r P) e h

pub only_one : (o : Outcome) (v w : AnyValue) (tree other : Tree) → o ≡ Some (v, tree) → o ≡ Some (w, other) → (v ≡ w) × (tree ≡ other)
only_one o v w tree other e e' = let same : (v, tree) ≡ (w, other) = cc in (ap (λ (r : AnyValue × Tree). r.0) same, ap (λ (r : AnyValue × Tree). r.1) same)

outcomes_at : (o : Outcomes) (P : List AnyValue → Trees → Type 0) (vs : List AnyValue) (ts : Trees) → IfAllGive o P → o ≡ Some (vs, ts) → P vs ts
outcomes_at o P vs ts h e = subst (λ (r : Outcomes). IfAllGive r P) e h

module _ (S : Situation) where
  pub gives_rule : (p : ℕ) (t : Term) (vars : Vars) (env : Env) (v : AnyValue) (tree : Tree) → eval_of S p t vars env ≡ Some (v, tree) → Evaluates S p t vars env v tree
  gives_rule p t vars env v tree e = outcome_at (eval_of S p t vars env) (Evaluates S p t vars env) v tree (outcome_rule S t p vars env) e

  pub gives_rules : (p i : ℕ) (xs : Terms) (vars : Vars) (env : Env) (vs : List AnyValue) (ts : Trees) → eval_all S p i xs vars env ≡ Some (vs, ts) → EvaluateAll S p i xs vars env vs ts
  gives_rules p i xs vars env vs ts e = outcomes_at (eval_all S p i xs vars env) (EvaluateAll S p i xs vars env) vs ts (outcomes_rule S xs p i vars env) e

  -- a term has at most one value and one tree
  pub one_outcome : (p : ℕ) (t : Term) (vars : Vars) (env : Env) (v w : AnyValue) (tree other : Tree) → Evaluates S p t vars env v tree → Evaluates S p t vars env w other → (v ≡ w) × (tree ≡ other)
  one_outcome p t vars env v w tree other h h' = only_one (eval_of S p t vars env) v w tree other (rule_gives S h) (rule_gives S h')
