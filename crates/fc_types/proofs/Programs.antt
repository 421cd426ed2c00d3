-- Declarations, one after another.
use Rattle.std.proofs.Common.{◌≡◌, sym, ap, ℕ, zero, suc, ◌+◌, ◌<◌, arith, List, [], ◌∷◌, length, map, take, get_or, Option, None, Some, subst}
use Rattle.fc_syntax.specs.declared.tree.Decl.{Decl}
use Rattle.fc_syntax.specs.Terms.{Declaration, declaration_of}
use Rattle.fc_types.specs.declared.faults.TypeKind.{TypeKind}
use Rattle.fc_types.specs.Before.{Earlier, with_declaration, with_declarations}
use Rattle.fc_types.specs.Typing.{IsTypedDeclaration, AreTyped}
use Rattle.fc_types.specs.Faults.{DeclarationFault, FirstFaultFrom, here, later}
use Rattle.fc_types.specs.Judging.{declaration_fault}
use Rattle.fc_types.proofs.Declarations.{FaultOr, declaration_holds}

-- a declaration without a fault is typed
pub none_typed : (B : Earlier) (d : Declaration) → declaration_fault B d ≡ None → IsTypedDeclaration B d
none_typed B d h = let P : Option TypeKind → Type 0 = (λ o. FaultOr (IsTypedDeclaration B d) (DeclarationFault B d) o) in subst P h (declaration_holds B d)

pub some_fault : (B : Earlier) (d : Declaration) (k : TypeKind) → declaration_fault B d ≡ Some k → DeclarationFault B d k
some_fault B d k h = let P : Option TypeKind → Type 0 = (λ o. FaultOr (IsTypedDeclaration B d) (DeclarationFault B d) o) in subst P h (declaration_holds B d)

pub more_known : (B : Earlier) (ds : List Decl) (i : ℕ) (x : Decl) → i < length ds → x ≡ get_or ds i x →
    with_declarations B (map declaration_of (take (suc i) ds)) ≡ with_declaration (with_declarations B (map declaration_of (take i ds))) (declaration_of x)
more_known B [] i x l e = absurd (omega arith)
more_known B (d ∷ ds) zero x l e = ap (λ (y : Decl). with_declaration B (declaration_of y)) (sym e)
more_known B (d ∷ ds) (suc i) x l e = more_known (with_declaration B (declaration_of d)) ds i x (omega arith) e

pub more_typed : (B : Earlier) (ds : List Decl) (i : ℕ) (x : Decl) → i < length ds → x ≡ get_or ds i x → AreTyped B (map declaration_of (take i ds)) →
    IsTypedDeclaration (with_declarations B (map declaration_of (take i ds))) (declaration_of x) → AreTyped B (map declaration_of (take (suc i) ds))
more_typed B [] i x l e a h = absurd (omega arith)
more_typed B (d ∷ ds) zero x l e a h = (rw e at h, tt)
more_typed B (d ∷ ds) (suc i) x l e a h = (a.0, more_typed (with_declaration B (declaration_of d)) ds i x (omega arith) e a.1 h)

pub fault_at : (n m : ℕ) (B : Earlier) (ds : List Decl) (i : ℕ) (x : Decl) (k : TypeKind) → i < length ds → x ≡ get_or ds i x → m ≡ n + i → AreTyped B (map declaration_of (take i ds)) →
    DeclarationFault (with_declarations B (map declaration_of (take i ds))) (declaration_of x) k → FirstFaultFrom n B (map declaration_of ds) m k
fault_at n m B [] i x k l e q a h = absurd (omega arith)
fault_at n m B (d ∷ ds) zero x k l e q a h = let q' : m ≡ n = omega arith in let h' = rw e at h in rw q' (here h')
fault_at n m B (d ∷ ds) (suc i) x k l e q a h = later a.0 (fault_at (suc n) m (with_declaration B (declaration_of d)) ds i x k (omega arith) e (omega arith) a.1 h)
