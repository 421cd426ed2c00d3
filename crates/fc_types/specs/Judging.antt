-- The type or the first fault of an expression, as one function.
use Rattle.std.specs.Prelude.{ℕ, ◌+◌, Bool, true, false, ◌&&◌, ◌==◌, nat_le, nat_lt, List, [], ◌∷◌, ◌++◌, length}
use Rattle.std.specs.Prelude.{Option, Some, None}
use Rattle.fc_values.specs.declared.builtins.Builtin.{Builtin}
use Rattle.fc_values.specs.declared.builtins.Builtin.TheVariants as op
use Rattle.fc_values.specs.declared.types.InputTy.{InputTy}
use Rattle.fc_values.specs.declared.types.InputTy.TheVariants as input
use Rattle.fc_values.specs.Types.{LocalType, IntType, BoolType, PairType, ValueType, TypeLocal, TypeField, Input}
use Rattle.fc_values.specs.Types.{input_type, leaves}
use Rattle.fc_values.specs.Builtins.{is_hood}
use Rattle.fc_values.specs.BuiltinTypes.{inner, inners, has_field, lifted}
use Rattle.fc_syntax.specs.Terms.{SourceTerm, IntTerm, TruthTerm, VarTerm, UidTerm, NbrLinkTerm, SenseTerm, ApplyTerm}
use Rattle.fc_syntax.specs.Terms.{NbrTerm, RepTerm, ShareTerm, IfTerm, LetTerm, CallTerm, SourceTerms, NoTerms, MoreTerms}
use Rattle.fc_syntax.specs.Terms.{Parameter, Declaration, LanguageIs, CeilingIs, InputIs, MetricIs, DefIs, MainIs}
use Rattle.fc_types.specs.declared.faults.TypeKind.{TypeKind}
use Rattle.fc_types.specs.declared.faults.TypeKind.TheVariants as kind
use Rattle.fc_types.specs.Before.{Function, Earlier, input_named, function_named, Scope, with_variable, type_in}
use Rattle.fc_types.specs.Typing.{parameter_types}
use Rattle.fc_types.specs.Faults.{shared_type}

-- the type of an expression, or its first fault; and the types of expressions in a row, or their first fault
pub data JudgedType : Type 0 where
  TypeFound : ValueType → JudgedType
  FaultFound : TypeKind → JudgedType

pub data JudgedTypes : Type 0 where
  TypesAre : List ValueType → JudgedTypes
  FaultAmong : TypeKind → JudgedTypes

-- go on where there is a type
abbrev pub go_on : JudgedType → (ValueType → JudgedType) → JudgedType
go_on (TypeFound t) f = f t
go_on (FaultFound k) f = FaultFound k

abbrev pub go_on_with : JudgedTypes → (List ValueType → JudgedType) → JudgedType
go_on_with (TypesAre ts) f = f ts
go_on_with (FaultAmong k) f = FaultFound k

abbrev pub before_these : ValueType → JudgedTypes → JudgedTypes
before_these t (TypesAre ts) = TypesAre (t ∷ ts)
before_these t (FaultAmong k) = FaultAmong k

abbrev pub row_of : JudgedType → JudgedTypes → JudgedTypes
row_of (TypeFound t) js = before_these t js
row_of (FaultFound k) js = FaultAmong k

-- whether two types are the same
abbrev pub same_local : LocalType → LocalType → Bool
same_local IntType IntType = true
same_local BoolType BoolType = true
same_local (PairType s t) (PairType u v) = same_local s u && same_local t v
same_local _ _ = false

abbrev pub same_type : ValueType → ValueType → Bool
same_type (TypeLocal s) (TypeLocal t) = same_local s t
same_type (TypeField s) (TypeField t) = same_local s t
same_type _ _ = false

abbrev pub same_types : List ValueType → List ValueType → Bool
same_types [] [] = true
same_types (s ∷ ss) (t ∷ ts) = same_type s t && same_types ss ts
same_types _ _ = false

-- so many arguments, each of a type
abbrev pub each_is : LocalType → List LocalType → Bool
each_is t [] = true
each_is t (s ∷ ss) = same_local s t && each_is t ss

abbrev pub type_if : Bool → LocalType → Option LocalType
type_if true t = Some t
type_if false t = None

abbrev pub type_if_all : LocalType → ℕ → LocalType → List LocalType → Option LocalType
type_if_all s n t ts = type_if (length ts == n && each_is s ts) t

abbrev pub alike_type : (LocalType → LocalType) → List LocalType → Option LocalType
alike_type f (s ∷ t ∷ []) = type_if (same_local s t) (f s)
alike_type f _ = None

abbrev pub choice_type : List LocalType → Option LocalType
choice_type (c ∷ s ∷ t ∷ []) = type_if (same_local c BoolType && same_local s t) s
choice_type _ = None

abbrev pub narrow_pair_type : List LocalType → Option LocalType
narrow_pair_type (s ∷ t ∷ []) = type_if (nat_le (leaves s + leaves t) 8) (PairType s t)
narrow_pair_type _ = None

abbrev pub part_type : (LocalType → LocalType → LocalType) → List LocalType → Option LocalType
part_type f (PairType s t ∷ []) = Some (f s t)
part_type f _ = None

-- the local type that an operator gives
abbrev pub operator_type : Builtin → List LocalType → Option LocalType
operator_type op.Add ts = type_if_all IntType 2 IntType ts
operator_type op.Sub ts = type_if_all IntType 2 IntType ts
operator_type op.Mul ts = type_if_all IntType 2 IntType ts
operator_type op.Rise ts = type_if_all IntType 3 IntType ts
operator_type op.Min ts = alike_type (λ t. t) ts
operator_type op.Max ts = alike_type (λ t. t) ts
operator_type op.Less ts = alike_type (λ t. BoolType) ts
operator_type op.Equal ts = alike_type (λ t. BoolType) ts
operator_type op.And ts = type_if_all BoolType 2 BoolType ts
operator_type op.Or ts = type_if_all BoolType 2 BoolType ts
operator_type op.Not ts = type_if_all BoolType 1 BoolType ts
operator_type op.Mux ts = choice_type ts
operator_type op.Pair ts = narrow_pair_type ts
operator_type op.Fst ts = part_type (λ s t. s) ts
operator_type op.Snd ts = part_type (λ s t. t) ts
operator_type op.MinHoodLoc ts = None
operator_type op.MaxHoodLoc ts = None
operator_type op.SumHood ts = None
operator_type op.AnyHood ts = None
operator_type op.AllHood ts = None

-- the local type that a hood gives
abbrev pub field_and_local_type : List ValueType → Option LocalType
field_and_local_type (TypeField s ∷ TypeLocal t ∷ []) = type_if (same_local s t) s
field_and_local_type _ = None

abbrev pub field_alone_type : LocalType → List ValueType → Option LocalType
field_alone_type t (TypeField s ∷ []) = type_if (same_local s t) t
field_alone_type t _ = None

abbrev pub hood_type : Builtin → List ValueType → Option LocalType
hood_type op.MinHoodLoc ts = field_and_local_type ts
hood_type op.MaxHoodLoc ts = field_and_local_type ts
hood_type op.SumHood ts = field_alone_type IntType ts
hood_type op.AnyHood ts = field_alone_type BoolType ts
hood_type op.AllHood ts = field_alone_type BoolType ts
hood_type _ ts = None

-- why a builtin has no type: a pair of two is too wide
abbrev pub why_not : Builtin → List ValueType → TypeKind
why_not op.Pair (s ∷ t ∷ []) = kind.Wide
why_not _ _ = kind.Mismatch

abbrev pub type_or : TypeKind → Bool → Option LocalType → JudgedType
type_or k field None = FaultFound k
type_or k field (Some t) = TypeFound (lifted field t)

abbrev pub judge_hood_or : Bool → Builtin → List ValueType → JudgedType
judge_hood_or true b ts = type_or kind.Mismatch false (hood_type b ts)
judge_hood_or false b ts = type_or (why_not b ts) (has_field ts) (operator_type b (inners ts))

abbrev pub judge_builtin : Builtin → List ValueType → JudgedType
judge_builtin b ts = judge_hood_or (is_hood b) b ts

-- the nodes, from the types of their children
abbrev pub judge_number : Bool → JudgedType
judge_number true = TypeFound (TypeLocal IntType)
judge_number false = FaultFound kind.Literal

abbrev pub judge_variable : Option ValueType → JudgedType
judge_variable None = FaultFound kind.Unknown
judge_variable (Some t) = TypeFound t

abbrev pub judge_sense : Option Input → JudgedType
judge_sense None = FaultFound kind.Unknown
judge_sense (Some i) = TypeFound (TypeLocal (input_type i.type))

abbrev pub judge_nbr : ValueType → JudgedType
judge_nbr (TypeLocal t) = TypeFound (TypeField t)
judge_nbr (TypeField t) = FaultFound kind.NotLocal

-- where a name is bound already there is no type
abbrev pub unless_bound : Option ValueType → ValueType → JudgedType
unless_bound None t = TypeFound t
unless_bound (Some s) t = FaultFound kind.Twice

abbrev pub where_same : Bool → TypeKind → JudgedType → JudgedType
where_same true k j = j
where_same false k j = FaultFound k

abbrev pub judge_evolving : Option ValueType → ValueType → ValueType → JudgedType
judge_evolving bound (TypeLocal s) (TypeLocal t) =
    where_same (same_local s t) kind.Mismatch (unless_bound bound (TypeLocal s))
judge_evolving bound _ _ = FaultFound kind.NotLocal

abbrev pub judge_if : ValueType → ValueType → ValueType → JudgedType
judge_if (TypeLocal r) (TypeLocal s) (TypeLocal t) =
    where_same (same_local r BoolType && same_local s t) kind.Mismatch (TypeFound (TypeLocal s))
judge_if _ _ _ = FaultFound kind.NotLocal

abbrev pub judge_call : Option Function → List ValueType → JudgedType
judge_call None ts = FaultFound kind.Unknown
judge_call (Some g) ts =
    where_same (length ts == length g.params) kind.Count
    (where_same (same_types ts (parameter_types g)) kind.Mismatch (TypeFound g.result))

abbrev mutual
  pub judge : Earlier → Scope → SourceTerm → JudgedType
  judge B scope (IntTerm n) = judge_number (nat_le n B.ceiling)
  judge B scope (TruthTerm b) = TypeFound (TypeLocal BoolType)
  judge B scope (VarTerm x) = judge_variable (type_in x scope)
  judge B scope UidTerm = TypeFound (TypeLocal IntType)
  judge B scope NbrLinkTerm = TypeFound (TypeField IntType)
  judge B scope (SenseTerm x) = judge_sense (input_named x B.inputs)
  judge B scope (ApplyTerm b es) = go_on_with (judge_all B scope es) (judge_builtin b)
  judge B scope (NbrTerm e) = go_on (judge B scope e) judge_nbr
  judge B scope (RepTerm e x b) =
      go_on (judge B scope e) (λ s. go_on (judge B (with_variable x s scope) b) (judge_evolving (type_in x scope) s))
  judge B scope (ShareTerm e x b) =
      go_on (judge B scope e) (λ s. go_on (judge B (with_variable x (shared_type s) scope) b)
      (judge_evolving (type_in x scope) s))
  judge B scope (IfTerm c a b) =
      go_on (judge B scope c) (λ r. go_on (judge B scope a) (λ s. go_on (judge B scope b) (judge_if r s)))
  judge B scope (LetTerm x a b) =
      go_on (judge B scope a) (λ s. go_on (judge B (with_variable x s scope) b) (unless_bound (type_in x scope)))
  judge B scope (CallTerm f es) = go_on_with (judge_all B scope es) (judge_call (function_named f B.functions))

  pub judge_all : Earlier → Scope → SourceTerms → JudgedTypes
  judge_all B scope NoTerms = TypesAre []
  judge_all B scope (MoreTerms e es) = row_of (judge B scope e) (judge_all B scope es)

-- the first fault of a declaration, where it has one
abbrev pub fault_where : Bool → TypeKind → Option TypeKind → Option TypeKind
fault_where true k o = Some k
fault_where false k o = o

abbrev pub fault_unless : Bool → TypeKind → Option TypeKind
fault_unless true k = None
fault_unless false k = Some k

-- this fault where there is something, and else another
abbrev pub fault_if : {A : Type 0} → Option A → TypeKind → Option TypeKind → Option TypeKind
fault_if None k o = o
fault_if (Some x) k o = Some k

abbrev pub or_fault : Option TypeKind → Option TypeKind → Option TypeKind
or_fault None o = o
or_fault (Some k) o = Some k

abbrev pub range_fault : ℕ → ℕ → ℕ → Option TypeKind
range_fault ceiling least greatest =
    fault_where (nat_lt greatest least) kind.Range (fault_where (nat_lt ceiling greatest) kind.Range None)

abbrev pub input_fault : ℕ → InputTy → Option TypeKind
input_fault ceiling input.Truth = None
input_fault ceiling (input.Whole least greatest) = range_fault ceiling least greatest

abbrev pub width_fault : ValueType → Option TypeKind
width_fault t = fault_where (nat_lt 8 (leaves (inner t))) kind.Wide None

abbrev pub parameter_fault : Scope → List Parameter → Option TypeKind
parameter_fault before [] = None
parameter_fault before (p ∷ ps) =
    fault_if (type_in p.name before) kind.Twice (or_fault (width_fault p.type) (parameter_fault (before ++ p
    ∷ []) ps))

abbrev pub body_fault : ValueType → JudgedType → Option TypeKind
body_fault r (TypeFound t) = fault_unless (same_type t r) kind.Result
body_fault r (FaultFound k) = Some k

abbrev pub main_fault : JudgedType → Option TypeKind
main_fault (TypeFound (TypeLocal t)) = None
main_fault (TypeFound (TypeField t)) = Some kind.NotLocal
main_fault (FaultFound k) = Some k

abbrev pub declaration_fault : Earlier → Declaration → Option TypeKind
declaration_fault B (LanguageIs n) = None
declaration_fault B (CeilingIs n) = fault_where (n == 0) kind.Range None
declaration_fault B (InputIs x t) = fault_if (input_named x B.inputs) kind.Twice (input_fault B.ceiling t)
declaration_fault B (MetricIs least greatest) = fault_if B.metric kind.Twice (range_fault B.ceiling least greatest)
declaration_fault B (DefIs f ps r e) =
    fault_if (function_named f B.functions) kind.Twice
    (or_fault (parameter_fault [] ps) (or_fault (width_fault r) (body_fault r (judge B ps e))))
declaration_fault B (MainIs e) = main_fault (judge B [] e)
