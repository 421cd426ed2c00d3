-- The walk form by the places of a program.
use Rattle.std.specs.Prelude.{ℕ, Bool, true, false, ◌≡◌, ◌+◌, List, Some}
use Rattle.fc_values.specs.declared.builtins.Builtin.{Builtin}
use Rattle.fc_values.specs.declared.builtins.Builtin.TheVariants as op
use Rattle.fc_values.specs.Types.{IntType, ValueType, TypeLocal}
use Rattle.fc_nodes.specs.declared.nodes.Node.{Node}
use Rattle.fc_nodes.specs.Terms.{ByRep, Term, Apply, NoMore, More, Sort, OfApply, OfEvolve, term_at, size}
use Rattle.fc_nodes.specs.Places.{StandsAt}
use Rattle.fc_nodes.specs.Program.{Program, unfolding_of}
use Rattle.walk_form.specs.declared.forms.Span.{Span}
use Rattle.walk_form.specs.declared.forms.Adds.{Adds}
use Rattle.walk_form.specs.declared.forms.Adds.TheVariants as adds
use Rattle.walk_form.specs.declared.forms.WalkForm.{WalkForm}
use Rattle.walk_form.specs.Forms.{StepTerm, StepValue, StepWeight, WalkTerms, walk_terms, sum_step, added_term}

-- the nodes of the term at a place
pub record IsSpan (ns : List Node) (s : Span) : Type 0 where
  pub stands : StandsAt ns s.from
  pub end : s.end ≡ s.from + size (term_at ns s.from)

abbrev pub step_of : List Node → Adds → StepTerm
step_of ns (adds.Values s) = StepValue s.from (term_at ns s.from)
step_of ns adds.Weights = StepWeight

abbrev pub AddsSpan : List Node → Adds → Type 0
AddsSpan ns (adds.Values s) = IsSpan ns s
AddsSpan ns adds.Weights = Unit {0}

-- what the sum at a place adds to what is heard of the root's variable
pub record IsStepOf (ns : List Node) (p : ℕ) (a : Adds) : Type 0 where
  pub step : sum_step 0 p (term_at ns p) ≡ Some (step_of ns a)
  pub span : AddsSpan ns a

abbrev pub terms_of : List Node → WalkForm → WalkTerms
terms_of ns f = record { place = f.local.from; local = term_at ns f.local.from; step = step_of ns f.adds }

-- the walk form of a program, by its places
pub record IsWalkForm (P : Program) (f : WalkForm) : Type 0 where
  pub terms : walk_terms (unfolding_of P) ≡ Some (terms_of P.nodes f)
  pub local : IsSpan P.nodes f.local
  pub step : AddsSpan P.nodes f.adds

-- a `rep` of type int
abbrev pub is_int_rep : Sort → ValueType → Bool
is_int_rep (OfEvolve ByRep) (TypeLocal IntType) = true
is_int_rep _ _ = false

abbrev pub is_add : Sort → Bool
is_add (OfApply op.Add) = true
is_add _ = false

-- what the summand at a place adds
pub record IsAddedOf (ns : List Node) (p : ℕ) (a : Adds) : Type 0 where
  pub step : added_term p (term_at ns p) ≡ Some (step_of ns a)
  pub span : AddsSpan ns a

-- the term at a place is a builtin of two arguments
abbrev pub IsBuiltinAt : Builtin → List Node → ℕ → Type 0
IsBuiltinAt o ns p = (t : ValueType) × (a : Term) × (b : Term) × (term_at ns p ≡ Apply t o (More a (More b NoMore)))
