-- The laws of typing.
use Rattle.std.specs.Prelude.{ℕ, ◌≡◌, ◌⊎◌, List}
use Rattle.fc_values.specs.Types.{ValueType}
use Rattle.fc_syntax.specs.Terms.{SourceTerm, Declaration}
use Rattle.fc_types.specs.declared.faults.TypeKind.{TypeKind}
use Rattle.fc_types.specs.Before.{Earlier, Scope}
use Rattle.fc_types.specs.Typing.{HasType, IsTyped}
use Rattle.fc_types.specs.Faults.{FirstFaultIn, FirstFault}

-- an expression has one type at most, one first fault at most, and not both
abbrev pub OneType : Type 0
OneType =
    (B : Earlier) (scope : Scope) (e : SourceTerm) (s t : ValueType) → HasType B scope e s → HasType B scope e t → s ≡ t

abbrev pub OneFaultIn : Type 0
OneFaultIn =
    (B : Earlier) (scope : Scope) (e : SourceTerm) (k l : TypeKind) → FirstFaultIn B scope e k
    → FirstFaultIn B scope e l → k
    ≡ l

abbrev pub TypeOrFault : Type 0
TypeOrFault =
    (B : Earlier) (scope : Scope) (e : SourceTerm) → ((t : ValueType) × HasType B scope e t)
    ⊎ ((k : TypeKind) × FirstFaultIn B scope e k)

abbrev pub NoTypeWithFault : Type 0
NoTypeWithFault =
    (B : Earlier) (scope : Scope) (e : SourceTerm) (t : ValueType) (k : TypeKind) → HasType B scope e t
    → FirstFaultIn B scope e k → ⊥

-- a program is typed exactly where it has no first fault, and it has one first fault at most
abbrev pub TypedOrAtFault : Type 0
TypedOrAtFault = (ds : List Declaration) → IsTyped ds ⊎ ((n : ℕ) × (k : TypeKind) × FirstFault ds n k)

abbrev pub NotTypedAtFault : Type 0
NotTypedAtFault = (ds : List Declaration) (n : ℕ) (k : TypeKind) → IsTyped ds → FirstFault ds n k → ⊥

abbrev pub OneFirstFault : Type 0
OneFirstFault =
    (ds : List Declaration) (n m : ℕ) (k l : TypeKind) → FirstFault ds n k → FirstFault ds m l → (n ≡ m) × (k ≡ l)
