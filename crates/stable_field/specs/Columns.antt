-- The values of a term at all devices, and those of a builtin from the values of its arguments.
use Rattle.std.specs.Prelude.{ℕ, ◌≡◌, ◌+◌, suc, List, [], ◌∷◌, map, Option, Some, None}
use Rattle.fc_values.specs.declared.builtins.Builtin.{Builtin}
use Rattle.fc_values.specs.Types.{LocalType, ValueType, TypeLocal, Declarations}
use Rattle.fc_values.specs.Values.{LocalValue, IntValue}
use Rattle.fc_values.specs.Fields.{AnyValue, ValueLocal, ValueField, Entries, entry_of}
use Rattle.fc_values.specs.Builtins.{builtin_value}
use Rattle.fc_nodes.specs.Terms.{Term, Apply, NoMore, More, term_type, size, term_at}
use Rattle.fc_nodes.specs.Places.{StandsAt}
use Rattle.fc_nodes.specs.Program.{Program}
use Rattle.topology.specs.Networks.{Network, lives, numbers}
use Rattle.interval_facts.specs.Solutions.{no_binders, local_map, Solves}
use Rattle.stable_field.specs.declared.terms.ClosedProgram.{ClosedProgram}

-- the values, by rising devices, of a field that solves a closed term over all devices
pub record IsColumn (N : Network) (p : ℕ) (t : Term) (es : Entries) : Type 0 where
  pub field : ℕ → LocalValue
  pub values : es ≡ map (λ (d : ℕ). (d, field d)) (numbers N.devices)
  pub solves : Solves N p t (lives N) no_binders (local_map field)

-- a program with these declarations, and its column
pub record IsKnown (D : Declarations) (N : Network) (k : ClosedProgram) : Type 0 where
  pub declared : k.program.declared ≡ D
  pub column : IsColumn N 0 (term_at k.program.nodes 0) (map entry_of k.values.items)

abbrev pub AllKnown : Declarations → Network → List ClosedProgram → Type 0
AllKnown D N [] = Unit {0}
AllKnown D N (k ∷ ks) = IsKnown D N k × AllKnown D N ks

-- ---- a builtin of two local values

pub record IsJoin (P : Program) (p : ℕ) (o : Builtin) (a b : ℕ) : Type 0 where
  pub type : ValueType
  pub term : term_at P.nodes p ≡ Apply type o (More (term_at P.nodes a) (More (term_at P.nodes b) NoMore))
  pub first_is : a ≡ suc p
  pub second_is : b ≡ suc p + size (term_at P.nodes a)
  pub first : StandsAt P.nodes a
  pub second : StandsAt P.nodes b
  pub first_local : (s : LocalType) × (term_type (term_at P.nodes a) ≡ TypeLocal s)
  pub second_local : (s : LocalType) × (term_type (term_at P.nodes b) ≡ TypeLocal s)

-- a local value, where it is one
abbrev pub local_in : Option AnyValue → LocalValue
local_in (Some (ValueLocal v)) = v
local_in (Some (ValueField es)) = IntValue 0
local_in None = IntValue 0

abbrev pub value_of_two : Builtin → ℕ → ℕ → LocalValue → LocalValue → Option AnyValue
value_of_two o c d v w = builtin_value o c d (ValueLocal v ∷ ValueLocal w ∷ [])

abbrev pub joined_value : Builtin → ℕ → ℕ → LocalValue → LocalValue → LocalValue
joined_value o c d v w = local_in (value_of_two o c d v w)

-- the builtin has a local value
abbrev pub HasLocal : Builtin → ℕ → ℕ → LocalValue → LocalValue → Type 0
HasLocal o c d v w = value_of_two o c d v w ≡ Some (ValueLocal (joined_value o c d v w))

-- its values at devices
abbrev pub joined_entries : Builtin → ℕ → Entries → Entries → Entries
joined_entries o c [] fs = []
joined_entries o c (e ∷ es) [] = []
joined_entries o c (e ∷ es) (f ∷ fs) = (e.0, joined_value o c e.0 e.1 f.1) ∷ joined_entries o c es fs

abbrev pub HaveLocal : Builtin → ℕ → Entries → Entries → Type 0
HaveLocal o c [] fs = Unit {0}
HaveLocal o c (e ∷ es) [] = Unit {0}
HaveLocal o c (e ∷ es) (f ∷ fs) = HasLocal o c e.0 e.1 f.1 × HaveLocal o c es fs
