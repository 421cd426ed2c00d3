-- What the values of the checker stand for.
use Rattle.std.specs.Prelude.{ℕ, List, map, Result, MatchResult, Option, None, Some, ◌≡◌}
use Rattle.std.specs.Borrow.{Bor}
use Rattle.fc_values.specs.declared.types.InputTy.{InputTy}
use Rattle.fc_values.specs.declared.types.Ty.{Ty}
use Rattle.fc_values.specs.Types.{type_of, Input}
use Rattle.std.specs.declared.alloc.Global.{Global}
use Rattle.std.specs.declared.vec.Vec.{Vec}
use Rattle.fc_syntax.specs.Terms.{parameter_of, term_of}
use Rattle.fc_types.specs.declared.faults.TypeKind.{TypeKind}
use Rattle.fc_types.specs.declared.faults.TypeFault.{TypeFault}
use Rattle.fc_types.specs.declared.faults.TypeFault.TheVariants as fault
use Rattle.fc_types.specs.declared.known.Function.{Function as AFunction}
use Rattle.fc_types.specs.declared.known.Known.{Known}
use Rattle.fc_types.specs.declared.refusal.TypeRefusal.{TypeRefusal}
use Rattle.fc_types.specs.declared.refusal.TypeRefusal.TheVariants as refusal
use Rattle.fc_types.specs.declared.scopes.Scope.{Scope as AScope}
use Rattle.fc_types.specs.declared.scopes.Scope.TheVariants as scope
use Rattle.fc_types.specs.Before.{Function, Earlier, Scope, with_variable}
use Rattle.fc_types.specs.Judging.{JudgedType, TypeFound, FaultFound, JudgedTypes, TypesAre, FaultAmong}

abbrev pub function_of : List ℕ → AFunction → Function
function_of name f =
    record {
      name = name;
      params = map parameter_of f.params.now;
      result = type_of f.result.now;
      body = term_of f.body.now;
    }

abbrev pub input_entry : Bor (List ℕ) × InputTy → Input
input_entry e = record { name = e.0.now; type = e.1 }

abbrev pub function_entry : Bor (List ℕ) × AFunction → Function
function_entry e = function_of e.0.now e.1

abbrev pub known_of : Known → Earlier
known_of k =
    record {
      ceiling = k.ceiling;
      inputs = map input_entry k.inputs.entries;
      metric = k.metric;
      functions = map function_entry k.functions.entries;
    }

abbrev pub scope_of : AScope → Scope
scope_of (scope.Params params) = map parameter_of params.now
scope_of (scope.Bind' x t p rest) = with_variable x.now.text.items (type_of t.now) (scope_of rest)

-- a refusal is this one, or want of memory
abbrev pub IfKind : TypeRefusal → (TypeKind → Type 0) → Type 0
IfKind (refusal.Kind k) P = P k
IfKind refusal.Memory P = Unit {0}

-- an answer is that of a judgement, or want of memory
abbrev pub Gives : Result Ty TypeRefusal → JudgedType → Type 0
Gives result j = MatchResult result (λ t. j ≡ TypeFound (type_of t)) (λ r. IfKind r (λ k. j ≡ FaultFound k))

abbrev pub GivesAll : Result (Vec Ty Global) TypeRefusal → JudgedTypes → Type 0
GivesAll result js =
    MatchResult result (λ ts. js ≡ TypesAre (map type_of ts.items)) (λ r. IfKind r (λ k. js ≡ FaultAmong k))

-- a check is passed where there is no fault
abbrev pub Passes : {T : Type 0} → Result T TypeRefusal → Option TypeKind → Type 0
Passes result o = MatchResult result (λ _. o ≡ None) (λ r. IfKind r (λ k. o ≡ Some k))

-- what is said of a fault
abbrev pub IfFault : TypeFault → (ℕ → TypeKind → Type 0) → Type 0
IfFault (fault.Fault n k) P = P n k
IfFault fault.Memory P = Unit {0}

-- want of memory
abbrev pub IsMemory : TypeFault → Type 0
IsMemory (fault.Fault n k) = ⊥
IsMemory fault.Memory = Unit {0}

-- this fault, or want of memory
abbrev pub IsFaultOrMemory : ℕ → TypeKind → TypeFault → Type 0
IsFaultOrMemory n k (fault.Fault m l) = (m ≡ n) × (l ≡ k)
IsFaultOrMemory n k fault.Memory = Unit {0}
