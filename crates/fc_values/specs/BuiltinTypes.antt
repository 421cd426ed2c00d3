-- The typing rules of the builtins.
use Rattle.std.specs.Prelude.{ℕ, Bool, true, false, ◌≡◌, ◌≤◌, ◌+◌, ◌||◌, List, [], ◌∷◌}
use Rattle.fc_values.specs.declared.builtins.Builtin.{Builtin}
use Rattle.fc_values.specs.declared.builtins.Builtin.TheVariants as op
use Rattle.fc_values.specs.Types.{LocalType, IntType, BoolType, PairType, ValueType, TypeLocal, TypeField, leaves}
use Rattle.fc_values.specs.Builtins.{is_hood}

-- how many arguments a builtin has
abbrev pub arity : Builtin → ℕ
arity op.Not = 1
arity op.Fst = 1
arity op.Snd = 1
arity op.SumHood = 1
arity op.AnyHood = 1
arity op.AllHood = 1
arity op.Mux = 3
arity op.Rise = 3
arity _ = 2

-- the local types of an operator's arguments, and that of its value
pub data Takes : Builtin → List LocalType → LocalType → Type 0 where
  takes_add : Takes op.Add (IntType ∷ IntType ∷ []) IntType
  takes_sub : Takes op.Sub (IntType ∷ IntType ∷ []) IntType
  takes_mul : Takes op.Mul (IntType ∷ IntType ∷ []) IntType
  takes_rise : Takes op.Rise (IntType ∷ IntType ∷ IntType ∷ []) IntType
  takes_min : (t : LocalType) → Takes op.Min (t ∷ t ∷ []) t
  takes_max : (t : LocalType) → Takes op.Max (t ∷ t ∷ []) t
  takes_less : (t : LocalType) → Takes op.Less (t ∷ t ∷ []) BoolType
  takes_equal : (t : LocalType) → Takes op.Equal (t ∷ t ∷ []) BoolType
  takes_and : Takes op.And (BoolType ∷ BoolType ∷ []) BoolType
  takes_or : Takes op.Or (BoolType ∷ BoolType ∷ []) BoolType
  takes_not : Takes op.Not (BoolType ∷ []) BoolType
  takes_mux : (t : LocalType) → Takes op.Mux (BoolType ∷ t ∷ t ∷ []) t
  takes_pair : (s t : LocalType) → leaves s + leaves t ≤ 8 → Takes op.Pair (s ∷ t ∷ []) (PairType s t)
  takes_fst : (s t : LocalType) → Takes op.Fst (PairType s t ∷ []) s
  takes_snd : (s t : LocalType) → Takes op.Snd (PairType s t ∷ []) t

-- the types of a hood's arguments, and that of its value
pub data Folds : Builtin → List ValueType → ValueType → Type 0 where
  folds_min : (t : LocalType) → Folds op.MinHoodLoc (TypeField t ∷ TypeLocal t ∷ []) (TypeLocal t)
  folds_max : (t : LocalType) → Folds op.MaxHoodLoc (TypeField t ∷ TypeLocal t ∷ []) (TypeLocal t)
  folds_sum : Folds op.SumHood (TypeField IntType ∷ []) (TypeLocal IntType)
  folds_any : Folds op.AnyHood (TypeField BoolType ∷ []) (TypeLocal BoolType)
  folds_all : Folds op.AllHood (TypeField BoolType ∷ []) (TypeLocal BoolType)

-- the local type of a value or of a field's values
abbrev pub inner : ValueType → LocalType
inner (TypeLocal t) = t
inner (TypeField t) = t

abbrev pub inners : List ValueType → List LocalType
inners [] = []
inners (t ∷ ts) = inner t ∷ inners ts

abbrev pub is_field : ValueType → Bool
is_field (TypeLocal t) = false
is_field (TypeField t) = true

abbrev pub has_field : List ValueType → Bool
has_field [] = false
has_field (t ∷ ts) = is_field t || has_field ts

-- an operator takes fields in place of local values, and then gives a field
abbrev pub lifted : Bool → LocalType → ValueType
lifted true t = TypeField t
lifted false t = TypeLocal t

pub record Lifts (builtin : Builtin) (ts : List ValueType) (t : ValueType) : Type 0 where
  pub local : LocalType
  pub takes : Takes builtin (inners ts) local
  pub value : t ≡ lifted (has_field ts) local

-- the typing rule of a builtin
abbrev pub rule_by : Bool → Builtin → List ValueType → ValueType → Type 0
rule_by true builtin ts t = Folds builtin ts t
rule_by false builtin ts t = Lifts builtin ts t

abbrev pub HasRule : Builtin → List ValueType → ValueType → Type 0
HasRule builtin ts t = rule_by (is_hood builtin) builtin ts t
