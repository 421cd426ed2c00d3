-- The walk form: the root is a `rep` of type int with the pattern `Minimising` whose body is `minHoodLoc(h, l)`, and h
-- is `nbr{x} + s` or `s + nbr{x}` for its variable x. Then s is local or `nbrLink`.
use Rattle.std.specs.Prelude.{ℕ, suc, Bool, true, false, ◌+◌, if◌then◌else◌, Option, Some, None}
use Rattle.std.specs.declared.result.Result.{Result}
use Rattle.std.specs.declared.result.Result.TheVariants.{Ok}
use Rattle.fc_values.specs.declared.builtins.Builtin.TheVariants as op
use Rattle.fc_values.specs.Types.{IntType, ValueType, TypeLocal, TypeField}
use Rattle.fc_nodes.specs.declared.verdicts.Reason.{Reason}
use Rattle.fc_nodes.specs.Terms.{NbrLink, ByRep, Term, Plain, Apply, Evolve, term_type, size}
use Rattle.fc_nodes.specs.Program.{Unfolding}
use Rattle.fc_nodes.specs.Variables.{is_heard}
use Rattle.fragment_check.specs.declared.kinds.Pattern.{Pattern}
use Rattle.fragment_check.specs.declared.kinds.Pattern.TheVariants as pattern
use Rattle.fragment_check.specs.Patterns.{two_of}
use Rattle.fragment_check.specs.Verdicts.{pattern_at}

-- what a step adds: what a local term, with its place, has at the device to which the step leads; or the weight of the
-- link
pub data StepTerm : Type 0 where
  StepValue : ℕ → Term → StepTerm
  StepWeight : StepTerm

-- what a walk starts with: the local argument, with its place; and what a step adds
pub record WalkTerms : Type 0 where
  pub place : ℕ
  pub local : Term
  pub step : StepTerm

-- ---- the terms

abbrev pub is_links : Term → Bool
is_links (Plain t NbrLink) = true
is_links _ = false

-- what a term of this type at a place adds
abbrev pub added_value : ℕ → Term → ValueType → Option StepTerm
added_value p s (TypeLocal t) = Some (StepValue p s)
added_value p s (TypeField t) = None

abbrev pub added_term : ℕ → Term → Option StepTerm
added_term p s = if is_links s then Some StepWeight else added_value p s (term_type s)

-- what is added to what is heard of the variable x, by two summands of which the first stands at place p
abbrev pub added_beside : ℕ → ℕ → Option (Term × Term) → Option StepTerm
added_beside x p None = None
added_beside x p (Some (a, b)) =
    if is_heard ByRep x a then added_term (p + size a) b else (if is_heard ByRep x b then added_term p a else None)

-- the same of the sum at place p
abbrev pub sum_step : ℕ → ℕ → Term → Option StepTerm
sum_step x p (Apply t op.Add xs) = added_beside x (suc p) (two_of xs)
sum_step x p _ = None

abbrev pub with_local : ℕ → Term → Option StepTerm → Option WalkTerms
with_local p l (Some s) = Some (record { place = p; local = l; step = s })
with_local p l None = None

-- the arguments of `minHoodLoc`, of which the first stands at place p
abbrev pub hood_terms : ℕ → ℕ → Option (Term × Term) → Option WalkTerms
hood_terms x p (Some (h, l)) = with_local (p + size h) l (sum_step x p h)
hood_terms x p None = None

-- the body of the `rep` at place x, which stands at place p
abbrev pub body_terms : ℕ → ℕ → Term → Option WalkTerms
body_terms x p (Apply t op.MinHoodLoc xs) = hood_terms x (suc p) (two_of xs)
body_terms x p _ = None

-- a `rep` of type int at the root
abbrev pub root_terms : Term → Option WalkTerms
root_terms (Evolve (TypeLocal IntType) ByRep a u) = body_terms 0 (suc 0 + size a) u
root_terms _ = None

-- ---- the form

abbrev pub is_minimising : Result Pattern Reason → Bool
is_minimising (Ok (pattern.Minimising greatest growth)) = true
is_minimising _ = false

abbrev pub if_minimising : Bool → Option WalkTerms → Option WalkTerms
if_minimising true o = o
if_minimising false o = None

-- the terms of the walk form of a program, where it has it
abbrev pub walk_terms : Unfolding → Option WalkTerms
walk_terms U = if_minimising (is_minimising (pattern_at U 0)) (root_terms U.main)
