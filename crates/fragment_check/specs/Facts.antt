-- What is gathered of the terms of a body.
use Rattle.std.specs.Prelude.{ℕ, Bool, true, false, not, ◌<◌, ◌||◌, ◌&&◌, nat_eq, if◌then◌else◌, List, [], ◌∷◌, Option, Some, None}
use Rattle.fc_values.specs.declared.builtins.Builtin.{Builtin}
use Rattle.fc_values.specs.declared.builtins.Builtin.TheVariants as op
use Rattle.fc_values.specs.Types.{IntType, ValueType, TypeLocal}
use Rattle.fc_nodes.specs.declared.nodes.Node.{Node}
use Rattle.fc_nodes.specs.Terms.{Variable, Evolution, Term, Terms, Sort, OfLeaf, OfApply}
use Rattle.fc_nodes.specs.Places.{StandsAt}
use Rattle.fc_nodes.specs.Variables.{occurs, occurs_in}
use Rattle.fc_nodes.specs.Sorts.{evolution_by}
use Rattle.fragment_check.specs.declared.facts.Gathered.{Gathered}
use Rattle.fragment_check.specs.declared.facts.Own.{Own}
use Rattle.fragment_check.specs.declared.facts.Guarding.{Guarding}
use Rattle.fragment_check.specs.declared.facts.Guarding.TheVariants as guarding
use Rattle.fragment_check.specs.Patterns.{is_nested, is_nested_in, is_bare, is_bare_in, guarding_of, guarding_in, together, guarding_or, guard}

-- places at which terms stand one after another, all after a place
abbrev pub InRow : List Node → ℕ → List ℕ → Type 0
InRow ns p [] = Unit {0}
InRow ns p (k ∷ ks) = (p < k) × StandsAt ns k × InRow ns k ks

-- how the value of a variable evolves
abbrev pub evolution_of : Own → Evolution
evolution_of own = evolution_by own.is_share

-- the facts of a term
abbrev pub facts_of : Own → Term → Gathered
facts_of own t = record {
  uses = occurs own.place t;
  nested = is_nested (evolution_of own) own.place t;
  bare = is_bare (evolution_of own) own.place t;
  guarding = guarding_of (evolution_of own) own.place t;
}

-- those of terms, taken together
abbrev pub facts_of_all : Own → Terms → Gathered
facts_of_all own ts = record {
  uses = occurs_in own.place ts;
  nested = is_nested_in (evolution_of own) own.place ts;
  bare = is_bare_in (evolution_of own) own.place ts;
  guarding = guarding_in (evolution_of own) own.place ts;
}

abbrev pub no_facts : Gathered
no_facts = record { uses = false; nested = false; bare = false; guarding = guarding.Unused }

abbrev pub joined : Gathered → Gathered → Gathered
joined a b = record {
  uses = a.uses || b.uses;
  nested = a.nested || b.nested;
  bare = a.bare || b.bare;
  guarding = together a.guarding b.guarding;
}

-- the facts of a builtin of these arguments
abbrev pub facts_of_apply : Own → Builtin → Terms → Gathered
facts_of_apply own o ts = record {
  uses = occurs_in own.place ts;
  nested = is_nested_in (evolution_of own) own.place ts;
  bare = is_bare_in (evolution_of own) own.place ts;
  guarding = guarding_or (guard (evolution_of own) own.place o ts) (guarding_in (evolution_of own) own.place ts);
}

-- the facts of what stands under `nbr`, and of what stands under `let`, `if`, `rep` or `share`
abbrev pub under_nbr : Bool → Gathered → Gathered
under_nbr heard f =
    record { uses = f.uses; nested = not heard && f.uses; bare = not heard && f.bare; guarding = f.guarding }

abbrev pub beneath : Gathered → Gathered
beneath f = record { uses = f.uses; nested = f.uses; bare = f.bare; guarding = f.guarding }

-- the facts of a variable
abbrev pub variable_facts : Own → ℕ → Gathered
variable_facts own q = record {
  uses = nat_eq q own.place;
  nested = false;
  bare = not own.is_share && nat_eq q own.place;
  guarding = if nat_eq q own.place then guarding.Missing else guarding.Unused;
}

-- the same by what a node is
abbrev pub int_variable_by : Sort → ValueType → Option ℕ
int_variable_by (OfLeaf (Variable q)) (TypeLocal IntType) = Some q
int_variable_by _ t = None

abbrev pub is_less_sort : Sort → Bool
is_less_sort (OfApply op.Less) = true
is_less_sort _ = false

abbrev pub leaf_facts_by : Own → Sort → Gathered
leaf_facts_by own (OfLeaf (Variable q)) = variable_facts own q
leaf_facts_by own _ = no_facts

abbrev pub is_mux : Builtin → Bool
is_mux op.Mux = true
is_mux _ = false

abbrev pub builtin_by : Sort → Option Builtin
builtin_by (OfApply o) = Some o
builtin_by _ = None

abbrev pub guarded_facts : Gathered → Option Guarding → Gathered
guarded_facts f (Some g) = record { uses = f.uses; nested = f.nested; bare = f.bare; guarding = g }
guarded_facts f None = f
