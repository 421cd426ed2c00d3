-- The types of arguments, one after another.
use Rattle.std.proofs.Common.{◌≡◌, refl, sym, ap, ◌∙◌, ℕ, zero, suc, ◌<◌, arith, List, [], ◌∷◌, ◌++◌, length, map, take, get_or}
use Rattle.fc_values.specs.Types.{ValueType}
use Rattle.fc_syntax.specs.declared.tree.Expr.{Expr}
use Rattle.fc_syntax.specs.Terms.{term_of, terms}
use Rattle.fc_types.specs.declared.faults.TypeKind.{TypeKind}
use Rattle.fc_types.specs.declared.refusal.TypeRefusal.{TypeRefusal}
use Rattle.fc_types.specs.declared.refusal.TypeRefusal.TheVariants as refusal
use Rattle.fc_types.specs.Views.{IfKind}
use Rattle.fc_types.specs.Before.{Earlier, Scope}
use Rattle.fc_types.specs.Judging.{JudgedType, TypeFound, FaultFound, JudgedTypes, TypesAre, FaultAmong, row_of, judge, judge_all}

row_types : (j : JudgedType) (js : JudgedTypes) (ts : List ValueType) → row_of j js ≡ TypesAre ts → (t : ValueType) × (us : List ValueType) × (j ≡ TypeFound t) × (js ≡ TypesAre us) × (ts ≡ t ∷ us)
row_types (TypeFound t) (TypesAre us) ts h = (t, us, refl, refl, cc)
row_types (TypeFound t) (FaultAmong k) ts h = absurd cc
row_types (FaultFound k) js ts h = absurd cc

row_put : (j : JudgedType) (js : JudgedTypes) (t : ValueType) (us : List ValueType) → j ≡ TypeFound t → js ≡ TypesAre us → row_of j js ≡ TypesAre (t ∷ us)
row_put j js t us e f = rw (e, f) refl

module _ (B : Earlier) (scope : Scope) where
  pub row_more : (xs : List Expr) (i : ℕ) (x : Expr) (ts : List ValueType) (t : ValueType) → i < length xs → x ≡ get_or xs i x → judge_all B scope (terms (map term_of (take i xs))) ≡ TypesAre ts →
      judge B scope (term_of x) ≡ TypeFound t → judge_all B scope (terms (map term_of (take (suc i) xs))) ≡ TypesAre (ts ++ t ∷ [])
  row_more [] i x ts t l q h j = absurd (omega arith)
  row_more (y ∷ ys) zero x ts t l q h j =
      let e : judge B scope (term_of y) ≡ TypeFound t = rw q at j in
      let none : ts ≡ [] = cc in rw (none, e) refl
  row_more (y ∷ ys) (suc i) x ts t l q h j =
      let r = row_types (judge B scope (term_of y)) (judge_all B scope (terms (map term_of (take i ys)))) ts h in
      let ih = row_more ys i x r.1 t (omega arith) q r.3 j in
      row_put (judge B scope (term_of y)) (judge_all B scope (terms (map term_of (take (suc i) ys)))) r.0 (r.1 ++ t ∷ []) r.2 ih
      ∙ ap (λ (us : List ValueType). TypesAre (us ++ t ∷ [])) (sym r.4)

  pub row_fault : (xs : List Expr) (i : ℕ) (x : Expr) (ts : List ValueType) (k : TypeKind) → i < length xs → x ≡ get_or xs i x → judge_all B scope (terms (map term_of (take i xs))) ≡ TypesAre ts →
      judge B scope (term_of x) ≡ FaultFound k → judge_all B scope (terms (map term_of xs)) ≡ FaultAmong k
  row_fault [] i x ts k l q h j = absurd (omega arith)
  row_fault (y ∷ ys) zero x ts k l q h j = let e : judge B scope (term_of y) ≡ FaultFound k = rw q at j in rw e refl
  row_fault (y ∷ ys) (suc i) x ts k l q h j =
      let r = row_types (judge B scope (term_of y)) (judge_all B scope (terms (map term_of (take i ys)))) ts h in
      let ih = row_fault ys i x r.1 k (omega arith) q r.3 j in
      let e = r.2 in
      rw (e, ih) refl

  pub fault_along : (xs : List Expr) (i : ℕ) (x : Expr) (ts : List ValueType) (r : TypeRefusal) → i < length xs → x ≡ get_or xs i x → judge_all B scope (terms (map term_of (take i xs))) ≡ TypesAre ts →
      IfKind r (λ k. judge B scope (term_of x) ≡ FaultFound k) → IfKind r (λ k. judge_all B scope (terms (map term_of xs)) ≡ FaultAmong k)
  fault_along xs i x ts (refusal.Kind k) l q h j = row_fault xs i x ts k l q h j
  fault_along xs i x ts refusal.Memory l q h j = tt
