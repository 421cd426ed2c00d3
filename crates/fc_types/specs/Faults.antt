-- The first fault of typing, in the order of the table of faults.
use Rattle.std.specs.Prelude.{ℕ, suc, ◌≡◌, ◌<◌, ◌+◌, ◌⊎◌, List, [], ◌∷◌, ◌++◌, length, Some, None}
use Rattle.fc_values.specs.declared.builtins.Builtin.{Builtin}
use Rattle.fc_values.specs.declared.builtins.Builtin.TheVariants as op
use Rattle.fc_values.specs.declared.types.InputTy.{InputTy}
use Rattle.fc_values.specs.declared.types.InputTy.TheVariants as input
use Rattle.fc_values.specs.Types.{LocalType, BoolType, ValueType, TypeLocal, TypeField, Input, leaves}
use Rattle.fc_values.specs.BuiltinTypes.{HasRule, inner}
use Rattle.fc_syntax.specs.Terms.{SourceTerm, IntTerm, VarTerm, SenseTerm, ApplyTerm, NbrTerm, RepTerm, ShareTerm, IfTerm}
use Rattle.fc_syntax.specs.Terms.{LetTerm, CallTerm, SourceTerms, MoreTerms, Parameter, Declaration, CeilingIs, InputIs}
use Rattle.fc_syntax.specs.Terms.{MetricIs, DefIs, MainIs}
use Rattle.fc_types.specs.declared.faults.TypeKind.{TypeKind}
use Rattle.fc_types.specs.declared.faults.TypeKind.TheVariants as kind
use Rattle.fc_types.specs.Before.{Function, Earlier, nothing_declared, with_declaration, input_named, function_named, Scope, with_variable}
use Rattle.fc_types.specs.Before.{type_in}
use Rattle.fc_types.specs.Typing.{IsFree, HasType, HaveTypes, parameter_types, AreParameters, IsNarrow}
use Rattle.fc_types.specs.Typing.{IsTypedDeclaration}

-- a parameter or binder in scope has the name
abbrev pub IsBound : List ℕ → Scope → Type 0
IsBound x scope = (t : ValueType) × (type_in x scope ≡ Some t)

abbrev pub IsField : ValueType → Type 0
IsField (TypeLocal t) = ⊥
IsField (TypeField t) = Unit {0}

-- more than 8 leaves
abbrev pub IsWide : ValueType → Type 0
IsWide t = 8 < leaves (inner t)

-- a pair of such types would have more than 8 leaves
abbrev pub IsWidePair : Builtin → List ValueType → Type 0
IsWidePair op.Pair (s ∷ t ∷ []) = 8 < leaves (inner s) + leaves (inner t)
IsWidePair _ _ = ⊥

-- no rule of the builtin is for arguments of such types
abbrev pub HasNoRule : Builtin → List ValueType → Type 0
HasNoRule b ts = (t : ValueType) → HasRule b ts t → ⊥

-- the type of the variable of a `share` whose first expression has this type
abbrev pub shared_type : ValueType → ValueType
shared_type (TypeLocal t) = TypeField t
shared_type (TypeField t) = TypeField t

-- The first fault in an expression: that of the first child that has one, where the children before it have types; and
-- where all children have types, that of the node.
mutual
  pub data FirstFaultIn : Earlier → Scope → SourceTerm → TypeKind → Type 0 where
    -- number
    int_literal : {B : Earlier} {scope : Scope} {n : ℕ} → B.ceiling < n → FirstFaultIn B scope (IntTerm n) kind.Literal
    -- variable, `sense`
    variable_unknown : {B : Earlier} {scope : Scope} {x : List ℕ} → IsFree x scope
        → FirstFaultIn B scope (VarTerm x) kind.Unknown
    sense_unknown : {B : Earlier} {scope : Scope} {x : List ℕ} → input_named x B.inputs ≡ None
        → FirstFaultIn B scope (SenseTerm x) kind.Unknown
    -- call
    in_argument : {B : Earlier} {scope : Scope} {f : List ℕ} {es : SourceTerms} {k : TypeKind}
        → FirstFaultAmong B scope es k
        → FirstFaultIn B scope (CallTerm f es) k
    call_unknown : {B : Earlier} {scope : Scope} {f : List ℕ} {es : SourceTerms} {ts : List ValueType} →
        HaveTypes B scope es ts → function_named f B.functions ≡ None
        → FirstFaultIn B scope (CallTerm f es) kind.Unknown
    call_count : {B : Earlier} {scope : Scope} {f : List ℕ} {es : SourceTerms} {ts : List ValueType} {g : Function} →
        HaveTypes B scope es ts → function_named f B.functions ≡ Some g → (length ts ≡ length g.params → ⊥)
        → FirstFaultIn B scope (CallTerm f es) kind.Count
    call_mismatch : {B : Earlier} {scope : Scope} {f : List ℕ} {es : SourceTerms} {ts : List ValueType} {g : Function} →
        HaveTypes B scope es ts → function_named f B.functions ≡ Some g → length ts ≡ length g.params
        → (ts ≡ parameter_types g → ⊥) →
        FirstFaultIn B scope (CallTerm f es) kind.Mismatch
    -- builtin, `rise` among them
    in_operand : {B : Earlier} {scope : Scope} {b : Builtin} {es : SourceTerms} {k : TypeKind}
        → FirstFaultAmong B scope es k
        → FirstFaultIn B scope (ApplyTerm b es) k
    builtin_mismatch : {B : Earlier} {scope : Scope} {b : Builtin} {es : SourceTerms} {ts : List ValueType} →
        HaveTypes B scope es ts → HasNoRule b ts → (IsWidePair b ts → ⊥)
        → FirstFaultIn B scope (ApplyTerm b es) kind.Mismatch
    builtin_wide : {B : Earlier} {scope : Scope} {b : Builtin} {es : SourceTerms} {ts : List ValueType} →
        HaveTypes B scope es ts → IsWidePair b ts → FirstFaultIn B scope (ApplyTerm b es) kind.Wide
    -- `nbr`
    in_nbr : {B : Earlier} {scope : Scope} {e : SourceTerm} {k : TypeKind} → FirstFaultIn B scope e k
        → FirstFaultIn B scope (NbrTerm e) k
    nbr_not_local : {B : Earlier} {scope : Scope} {e : SourceTerm} {t : LocalType} → HasType B scope e (TypeField t)
        → FirstFaultIn B scope (NbrTerm e) kind.NotLocal
    -- `rep`
    in_rep_first : {B : Earlier} {scope : Scope} {e : SourceTerm} {x : List ℕ} {b : SourceTerm} {k : TypeKind}
        → FirstFaultIn B scope e k → FirstFaultIn B scope (RepTerm e x b) k
    in_rep_body : {B : Earlier} {scope : Scope} {e : SourceTerm} {x : List ℕ} {b : SourceTerm} {k : TypeKind}
        {s : ValueType} →
        HasType B scope e s → FirstFaultIn B (with_variable x s scope) b k → FirstFaultIn B scope (RepTerm e x b) k
    rep_not_local : {B : Earlier} {scope : Scope} {e : SourceTerm} {x : List ℕ} {b : SourceTerm} {s t : ValueType} →
        HasType B scope e s → HasType B (with_variable x s scope) b t → IsField s ⊎ IsField t
        → FirstFaultIn B scope (RepTerm e x b) kind.NotLocal
    rep_mismatch : {B : Earlier} {scope : Scope} {e : SourceTerm} {x : List ℕ} {b : SourceTerm} {s t : LocalType} →
        HasType B scope e (TypeLocal s) → HasType B (with_variable x (TypeLocal s) scope) b (TypeLocal t) → (s ≡ t → ⊥)
        → FirstFaultIn B scope (RepTerm e x b) kind.Mismatch
    rep_twice : {B : Earlier} {scope : Scope} {e : SourceTerm} {x : List ℕ} {b : SourceTerm} {t : LocalType} →
        HasType B scope e (TypeLocal t) → HasType B (with_variable x (TypeLocal t) scope) b (TypeLocal t)
        → IsBound x scope
        → FirstFaultIn B scope (RepTerm e x b) kind.Twice
    -- `share`
    in_share_first : {B : Earlier} {scope : Scope} {e : SourceTerm} {x : List ℕ} {b : SourceTerm} {k : TypeKind}
        → FirstFaultIn B scope e k → FirstFaultIn B scope (ShareTerm e x b) k
    in_share_body : {B : Earlier} {scope : Scope} {e : SourceTerm} {x : List ℕ} {b : SourceTerm} {k : TypeKind}
        {s : ValueType} →
        HasType B scope e s → FirstFaultIn B (with_variable x (shared_type s) scope) b k
        → FirstFaultIn B scope (ShareTerm e x b) k
    share_not_local : {B : Earlier} {scope : Scope} {e : SourceTerm} {x : List ℕ} {b : SourceTerm} {s t : ValueType} →
        HasType B scope e s → HasType B (with_variable x (shared_type s) scope) b t → IsField s ⊎ IsField t
        → FirstFaultIn B scope (ShareTerm e x b) kind.NotLocal
    share_mismatch : {B : Earlier} {scope : Scope} {e : SourceTerm} {x : List ℕ} {b : SourceTerm} {s t : LocalType} →
        HasType B scope e (TypeLocal s) → HasType B (with_variable x (TypeField s) scope) b (TypeLocal t) → (s ≡ t → ⊥)
        → FirstFaultIn B scope (ShareTerm e x b) kind.Mismatch
    share_twice : {B : Earlier} {scope : Scope} {e : SourceTerm} {x : List ℕ} {b : SourceTerm} {t : LocalType} →
        HasType B scope e (TypeLocal t) → HasType B (with_variable x (TypeField t) scope) b (TypeLocal t)
        → IsBound x scope
        → FirstFaultIn B scope (ShareTerm e x b) kind.Twice
    -- `if`
    in_condition : {B : Earlier} {scope : Scope} {c a b : SourceTerm} {k : TypeKind} → FirstFaultIn B scope c k
        → FirstFaultIn B scope (IfTerm c a b) k
    in_then : {B : Earlier} {scope : Scope} {c a b : SourceTerm} {k : TypeKind} {r : ValueType} → HasType B scope c r
        → FirstFaultIn B scope a k → FirstFaultIn B scope (IfTerm c a b) k
    in_else : {B : Earlier} {scope : Scope} {c a b : SourceTerm} {k : TypeKind} {r s : ValueType} →
        HasType B scope c r → HasType B scope a s → FirstFaultIn B scope b k → FirstFaultIn B scope (IfTerm c a b) k
    if_not_local : {B : Earlier} {scope : Scope} {c a b : SourceTerm} {r s t : ValueType} →
        HasType B scope c r → HasType B scope a s → HasType B scope b t → IsField r ⊎ IsField s ⊎ IsField t
        → FirstFaultIn B scope (IfTerm c a b) kind.NotLocal
    if_mismatch : {B : Earlier} {scope : Scope} {c a b : SourceTerm} {r s t : LocalType} →
        HasType B scope c (TypeLocal r) → HasType B scope a (TypeLocal s) → HasType B scope b (TypeLocal t)
        → ((r ≡ BoolType) × (s ≡ t) → ⊥) →
        FirstFaultIn B scope (IfTerm c a b) kind.Mismatch
    -- `let`
    in_bound : {B : Earlier} {scope : Scope} {x : List ℕ} {a b : SourceTerm} {k : TypeKind} → FirstFaultIn B scope a k
        → FirstFaultIn B scope (LetTerm x a b) k
    in_body : {B : Earlier} {scope : Scope} {x : List ℕ} {a b : SourceTerm} {k : TypeKind} {s : ValueType} →
        HasType B scope a s → FirstFaultIn B (with_variable x s scope) b k → FirstFaultIn B scope (LetTerm x a b) k
    let_twice : {B : Earlier} {scope : Scope} {x : List ℕ} {a b : SourceTerm} {s t : ValueType} →
        HasType B scope a s → HasType B (with_variable x s scope) b t → IsBound x scope
        → FirstFaultIn B scope (LetTerm x a b) kind.Twice

  -- the first fault among expressions in a row
  pub data FirstFaultAmong : Earlier → Scope → SourceTerms → TypeKind → Type 0 where
    in_first : {B : Earlier} {scope : Scope} {e : SourceTerm} {es : SourceTerms} {k : TypeKind}
        → FirstFaultIn B scope e k
        → FirstFaultAmong B scope (MoreTerms e es) k
    in_later : {B : Earlier} {scope : Scope} {e : SourceTerm} {es : SourceTerms} {k : TypeKind} {t : ValueType} →
        HasType B scope e t → FirstFaultAmong B scope es k → FirstFaultAmong B scope (MoreTerms e es) k

-- the first fault of parameters behind others of their function: for each its name, and then its type
pub data ParameterFault : Scope → List Parameter → TypeKind → Type 0 where
  parameter_twice : {before : Scope} {p : Parameter} {ps : List Parameter} → IsBound p.name before
      → ParameterFault before (p ∷ ps) kind.Twice
  parameter_wide : {before : Scope} {p : Parameter} {ps : List Parameter} → IsFree p.name before → IsWide p.type
      → ParameterFault before (p ∷ ps) kind.Wide
  parameter_later : {before : Scope} {p : Parameter} {ps : List Parameter} {k : TypeKind} →
      IsFree p.name before → IsNarrow p.type → ParameterFault (before ++ p ∷ []) ps k → ParameterFault before (p ∷ ps) k

-- the least above the greatest, or the greatest above the ceiling
abbrev pub IsNoRange : ℕ → ℕ → ℕ → Type 0
IsNoRange ceiling least greatest = (greatest < least) ⊎ (ceiling < greatest)

abbrev pub IsFunction : List ℕ → Earlier → Type 0
IsFunction f B = (g : Function) × (function_named f B.functions ≡ Some g)

abbrev pub IsNew : List ℕ → Earlier → Type 0
IsNew f B = function_named f B.functions ≡ None

-- the first fault of a declaration
pub data DeclarationFault : Earlier → Declaration → TypeKind → Type 0 where
  -- `ceiling`
  ceiling_range : {B : Earlier} {n : ℕ} → n ≡ 0 → DeclarationFault B (CeilingIs n) kind.Range
  -- `input`
  input_twice : {B : Earlier} {x : List ℕ} {t : InputTy} {i : Input} → input_named x B.inputs ≡ Some i
      → DeclarationFault B (InputIs x t) kind.Twice
  input_range : {B : Earlier} {x : List ℕ} {least greatest : ℕ} →
      input_named x B.inputs ≡ None → IsNoRange B.ceiling least greatest
      → DeclarationFault B (InputIs x (input.Whole least greatest)) kind.Range
  -- `metric`
  metric_twice : {B : Earlier} {least greatest : ℕ} {m : ℕ × ℕ} → B.metric ≡ Some m
      → DeclarationFault B (MetricIs least greatest) kind.Twice
  metric_range : {B : Earlier} {least greatest : ℕ} → B.metric ≡ None → IsNoRange B.ceiling least greatest
      → DeclarationFault B (MetricIs least greatest) kind.Range
  -- `def`
  def_twice : {B : Earlier} {f : List ℕ} {ps : List Parameter} {r : ValueType} {e : SourceTerm} → IsFunction f B
      → DeclarationFault B (DefIs f ps r e) kind.Twice
  def_parameter : {B : Earlier} {f : List ℕ} {ps : List Parameter} {r : ValueType} {e : SourceTerm} {k : TypeKind} →
      IsNew f B → ParameterFault [] ps k → DeclarationFault B (DefIs f ps r e) k
  def_wide : {B : Earlier} {f : List ℕ} {ps : List Parameter} {r : ValueType} {e : SourceTerm} →
      IsNew f B → AreParameters [] ps → IsWide r → DeclarationFault B (DefIs f ps r e) kind.Wide
  def_body : {B : Earlier} {f : List ℕ} {ps : List Parameter} {r : ValueType} {e : SourceTerm} {k : TypeKind} →
      IsNew f B → AreParameters [] ps → IsNarrow r → FirstFaultIn B ps e k → DeclarationFault B (DefIs f ps r e) k
  def_result : {B : Earlier} {f : List ℕ} {ps : List Parameter} {r t : ValueType} {e : SourceTerm} →
      IsNew f B → AreParameters [] ps → IsNarrow r → HasType B ps e t → (t ≡ r → ⊥)
      → DeclarationFault B (DefIs f ps r e) kind.Result
  -- `main`
  main_expression : {B : Earlier} {e : SourceTerm} {k : TypeKind} → FirstFaultIn B [] e k
      → DeclarationFault B (MainIs e) k
  main_not_local : {B : Earlier} {e : SourceTerm} {t : LocalType} → HasType B [] e (TypeField t)
      → DeclarationFault B (MainIs e) kind.NotLocal

-- The first fault of declarations of which the first has a number: that of the first declaration that has one.
pub data FirstFaultFrom : ℕ → Earlier → List Declaration → ℕ → TypeKind → Type 0 where
  here : {n : ℕ} {B : Earlier} {d : Declaration} {ds : List Declaration} {k : TypeKind} → DeclarationFault B d k
      → FirstFaultFrom n B (d ∷ ds) n k
  later : {n : ℕ} {B : Earlier} {d : Declaration} {ds : List Declaration} {m : ℕ} {k : TypeKind} →
      IsTypedDeclaration B d → FirstFaultFrom (suc n) (with_declaration B d) ds m k → FirstFaultFrom n B (d ∷ ds) m k

-- the first fault of a program: the number of its declaration, from 1, and its kind
abbrev pub FirstFault : List Declaration → ℕ → TypeKind → Type 0
FirstFault ds n k = FirstFaultFrom 1 nothing_declared ds n k
