-- The typing rules.
use Rattle.std.specs.Prelude.{ℕ, ◌≡◌, ◌≤◌, Bool, List, [], ◌∷◌, ◌++◌, map, Some, None}
use Rattle.fc_values.specs.declared.builtins.Builtin.{Builtin}
use Rattle.fc_values.specs.declared.types.InputTy.{InputTy}
use Rattle.fc_values.specs.declared.types.InputTy.TheVariants as input
use Rattle.fc_values.specs.Types.{LocalType, IntType, BoolType, ValueType, TypeLocal, TypeField, Input, input_type}
use Rattle.fc_values.specs.Types.{leaves, IsRange}
use Rattle.fc_values.specs.BuiltinTypes.{HasRule, inner}
use Rattle.fc_syntax.specs.Terms.{SourceTerm, IntTerm, TruthTerm, VarTerm, UidTerm, NbrLinkTerm, SenseTerm, ApplyTerm}
use Rattle.fc_syntax.specs.Terms.{NbrTerm, RepTerm, ShareTerm, IfTerm, LetTerm, CallTerm, SourceTerms, NoTerms, MoreTerms}
use Rattle.fc_syntax.specs.Terms.{Parameter, Declaration, LanguageIs, CeilingIs, InputIs, MetricIs, DefIs, MainIs}
use Rattle.fc_types.specs.Before.{Function, Earlier, nothing_declared, with_declaration, input_named, function_named, Scope, with_variable}
use Rattle.fc_types.specs.Before.{type_in}

-- no parameter or binder in scope has the name
abbrev pub IsFree : List ℕ → Scope → Type 0
IsFree x scope = type_in x scope ≡ None

abbrev pub parameter_types : Function → List ValueType
parameter_types f = map (λ (p : Parameter). p.type) f.params

-- An expression has a type, under what the earlier declarations have declared and in a scope; and expressions in a row
-- have types.
mutual
  pub data HasType : Earlier → Scope → SourceTerm → ValueType → Type 0 where
    int_type : {B : Earlier} {scope : Scope} {n : ℕ} → n ≤ B.ceiling → HasType B scope (IntTerm n) (TypeLocal IntType)
    truth_type : {B : Earlier} {scope : Scope} {b : Bool} → HasType B scope (TruthTerm b) (TypeLocal BoolType)
    variable_type : {B : Earlier} {scope : Scope} {x : List ℕ} {t : ValueType} → type_in x scope ≡ Some t
        → HasType B scope (VarTerm x) t
    uid_type : {B : Earlier} {scope : Scope} → HasType B scope UidTerm (TypeLocal IntType)
    nbr_link_type : {B : Earlier} {scope : Scope} → HasType B scope NbrLinkTerm (TypeField IntType)
    sense_type : {B : Earlier} {scope : Scope} {x : List ℕ} {i : Input} → input_named x B.inputs ≡ Some i
        → HasType B scope (SenseTerm x) (TypeLocal (input_type i.type))
    builtin_type : {B : Earlier} {scope : Scope} {b : Builtin} {es : SourceTerms} {ts : List ValueType}
        {t : ValueType} →
        HaveTypes B scope es ts → HasRule b ts t → HasType B scope (ApplyTerm b es) t
    nbr_type : {B : Earlier} {scope : Scope} {e : SourceTerm} {t : LocalType} → HasType B scope e (TypeLocal t)
        → HasType B scope (NbrTerm e) (TypeField t)
    rep_type : {B : Earlier} {scope : Scope} {e : SourceTerm} {x : List ℕ} {b : SourceTerm} {t : LocalType} →
        HasType B scope e (TypeLocal t) → HasType B (with_variable x (TypeLocal t) scope) b (TypeLocal t)
        → IsFree x scope
        → HasType B scope (RepTerm e x b) (TypeLocal t)
    share_type : {B : Earlier} {scope : Scope} {e : SourceTerm} {x : List ℕ} {b : SourceTerm} {t : LocalType} →
        HasType B scope e (TypeLocal t) → HasType B (with_variable x (TypeField t) scope) b (TypeLocal t)
        → IsFree x scope
        → HasType B scope (ShareTerm e x b) (TypeLocal t)
    if_type : {B : Earlier} {scope : Scope} {c a b : SourceTerm} {t : LocalType} →
        HasType B scope c (TypeLocal BoolType) → HasType B scope a (TypeLocal t) → HasType B scope b (TypeLocal t)
        → HasType B scope (IfTerm c a b) (TypeLocal t)
    let_type : {B : Earlier} {scope : Scope} {x : List ℕ} {a b : SourceTerm} {s t : ValueType} →
        HasType B scope a s → HasType B (with_variable x s scope) b t → IsFree x scope
        → HasType B scope (LetTerm x a b) t
    call_type : {B : Earlier} {scope : Scope} {f : List ℕ} {es : SourceTerms} {g : Function} →
        function_named f B.functions ≡ Some g → HaveTypes B scope es (parameter_types g)
        → HasType B scope (CallTerm f es) g.result

  pub data HaveTypes : Earlier → Scope → SourceTerms → List ValueType → Type 0 where
    no_types : {B : Earlier} {scope : Scope} → HaveTypes B scope NoTerms []
    more_types : {B : Earlier} {scope : Scope} {e : SourceTerm} {es : SourceTerms} {t : ValueType}
        {ts : List ValueType} →
        HasType B scope e t → HaveTypes B scope es ts → HaveTypes B scope (MoreTerms e es) (t ∷ ts)

-- a type with at most 8 leaves
abbrev pub IsNarrow : ValueType → Type 0
IsNarrow t = leaves (inner t) ≤ 8

abbrev pub IsInputRange : ℕ → InputTy → Type 0
IsInputRange ceiling input.Truth = Unit {0}
IsInputRange ceiling (input.Whole least greatest) = IsRange ceiling least greatest

-- parameters behind others of their function: distinct names, and narrow types
abbrev pub AreParameters : Scope → List Parameter → Type 0
AreParameters before [] = Unit {0}
AreParameters before (p ∷ ps) = IsFree p.name before × IsNarrow p.type × AreParameters (before ++ p ∷ []) ps

-- a declaration is typed
abbrev pub IsTypedDeclaration : Earlier → Declaration → Type 0
IsTypedDeclaration B (LanguageIs n) = Unit {0}
IsTypedDeclaration B (CeilingIs n) = 1 ≤ n
IsTypedDeclaration B (InputIs x t) = (input_named x B.inputs ≡ None) × IsInputRange B.ceiling t
IsTypedDeclaration B (MetricIs least greatest) = (B.metric ≡ None) × IsRange B.ceiling least greatest
IsTypedDeclaration B (DefIs f params result body) =
    (function_named f B.functions ≡ None) × AreParameters [] params × IsNarrow result × HasType B params body result
IsTypedDeclaration B (MainIs e) = (t : LocalType) × HasType B [] e (TypeLocal t)

-- each declaration is typed, under those before it
abbrev pub AreTyped : Earlier → List Declaration → Type 0
AreTyped B [] = Unit {0}
AreTyped B (d ∷ ds) = IsTypedDeclaration B d × AreTyped (with_declaration B d) ds

-- a typed program
abbrev pub IsTyped : List Declaration → Type 0
IsTyped ds = AreTyped nothing_declared ds
