-- What is computed for a declaration is its first fault, and a declaration without one is typed.
use Rattle.std.proofs.Common.{◌≡◌, ◌⊎◌, inl, inr, refl, ℕ, suc, nat_lt, ◌==◌, arith, Bool, true, false, List, [], ◌∷◌, ◌++◌, Option, Some, None}
use Rattle.std.proofs.lemmas.Bool.{ltb-true, ltb-false, lt-ltb, le-ltb, eqb-true, eqb-false, ne_eqb}
use Rattle.fc_values.specs.declared.types.InputTy.{InputTy}
use Rattle.fc_values.specs.declared.types.InputTy.TheVariants as input
use Rattle.fc_values.specs.Types.{ValueType, TypeLocal, TypeField, Input, IsRange, leaves}
use Rattle.fc_values.specs.BuiltinTypes.{inner}
use Rattle.fc_syntax.specs.Terms.{SourceTerm, Parameter, Declaration, LanguageIs, CeilingIs, InputIs, MetricIs, DefIs, MainIs}
use Rattle.fc_types.specs.declared.faults.TypeFault.{TypeFault}
use Rattle.fc_types.specs.declared.faults.TypeFault.TheVariants as fault
use Rattle.fc_types.specs.declared.faults.TypeKind.{TypeKind}
use Rattle.fc_types.specs.declared.faults.TypeKind.TheVariants as kind
use Rattle.fc_types.specs.Before.{Function, Earlier, nothing_declared, with_declaration, input_named, function_named, Scope, type_in}
use Rattle.fc_types.specs.Typing.{IsFree, IsNarrow, HasType, IsInputRange, AreParameters, IsTypedDeclaration, AreTyped}
use Rattle.fc_types.specs.Faults.{IsBound, IsWide, IsNew, ParameterFault, parameter_twice, parameter_wide, parameter_later, IsNoRange, DeclarationFault, ceiling_range, input_twice, input_range, metric_twice, metric_range, def_twice, def_parameter, def_wide, def_body, def_result, main_expression, main_not_local, FirstFaultFrom, here, later, FirstFault}
use Rattle.fc_types.specs.Views.{IfFault, IsMemory, IsFaultOrMemory}
use Rattle.fc_types.specs.Judging.{JudgedType, TypeFound, FaultFound, judge, fault_where, fault_unless, fault_if, or_fault, range_fault, input_fault, width_fault, parameter_fault, body_fault, main_fault, same_type, declaration_fault}
use Rattle.fc_types.proofs.Same.{same_type_refl, same_type_is, types_differ}
use Rattle.fc_types.proofs.Judged.{JudgementHolds, judged, type_judged, fault_judged}

-- a fault, or none
abbrev pub FaultOr : Type 0 → (TypeKind → Type 0) → Option TypeKind → Type 0
FaultOr P Q None = P
FaultOr P Q (Some k) = Q k

module _ (ceiling least greatest : ℕ) (P : Type 0) (Q : TypeKind → Type 0) (in_range : IsRange ceiling least greatest → P) (no_range : IsNoRange ceiling least greatest → Q kind.Range) where
  range_above : (a b : Bool) → nat_lt greatest least ≡ a → nat_lt ceiling greatest ≡ b → FaultOr P Q (fault_where a kind.Range (fault_where b kind.Range None))
  range_above true b e f = no_range (inl (ltb-true greatest least e))
  range_above false true e f = no_range (inr (ltb-true ceiling greatest f))
  range_above false false e f = in_range (ltb-false greatest least e, ltb-false ceiling greatest f)

  range_holds : FaultOr P Q (range_fault ceiling least greatest)
  range_holds = range_above (nat_lt greatest least) (nat_lt ceiling greatest) refl refl

width_holds : (t : ValueType) (P : Type 0) (Q : TypeKind → Type 0) → (IsNarrow t → P) → (IsWide t → Q kind.Wide) → FaultOr P Q (width_fault t)
width_holds t P Q f g = go (nat_lt 8 (leaves (inner t))) refl
  where
    go : (b : Bool) → nat_lt 8 (leaves (inner t)) ≡ b → FaultOr P Q (fault_where b kind.Wide None)
    go true e = g (ltb-true 8 (leaves (inner t)) e)
    go false e = f (ltb-false 8 (leaves (inner t)) e)

-- a fault, or what comes after it
or_holds : (o o' : Option TypeKind) (P R : Type 0) (Q : TypeKind → Type 0) → FaultOr P Q o → (P → FaultOr R Q o') → FaultOr R Q (or_fault o o')
or_holds None o' P R Q h f = f h
or_holds (Some k) o' P R Q h f = h

bound_holds : (x : List ℕ) (before : Scope) (P : Type 0) (Q : TypeKind → Type 0) (o' : Option TypeKind) → (IsFree x before → FaultOr P Q o') → (IsBound x before → Q kind.Twice) →
    FaultOr P Q (fault_if (type_in x before) kind.Twice o')
bound_holds x before P Q o' f g = go (type_in x before) refl
  where
    go : (o : Option ValueType) → type_in x before ≡ o → FaultOr P Q (fault_if o kind.Twice o')
    go None e = f e
    go (Some t) e = g (t, e)

pub parameters_hold : (before : Scope) (ps : List Parameter) → FaultOr (AreParameters before ps) (ParameterFault before ps) (parameter_fault before ps)
parameters_hold before [] = tt
parameters_hold before (p ∷ ps) =
    bound_holds p.name before (AreParameters before (p ∷ ps)) (ParameterFault before (p ∷ ps)) (or_fault (width_fault p.type) (parameter_fault (before ++ p ∷ []) ps))
    (λ f. or_holds (width_fault p.type) (parameter_fault (before ++ p ∷ []) ps) (IsNarrow p.type) (AreParameters before (p ∷ ps)) (ParameterFault before (p ∷ ps))
    (width_holds p.type (IsNarrow p.type) (ParameterFault before (p ∷ ps)) (λ n. n) (λ w. parameter_wide f w))
    (λ n. rest f n (parameter_fault (before ++ p ∷ []) ps) (parameters_hold (before ++ p ∷ []) ps)))
    (λ b. parameter_twice b)
  where
    rest : IsFree p.name before → IsNarrow p.type → (o : Option TypeKind) → FaultOr (AreParameters (before ++ p ∷ []) ps) (ParameterFault (before ++ p ∷ []) ps) o → FaultOr (AreParameters before (p ∷ ps)) (ParameterFault before (p ∷ ps)) o
    rest f n None h = (f, n, h)
    rest f n (Some k) h = parameter_later f n h

abbrev pub IsJudged : Earlier → Declaration → Option TypeKind → Type 0
IsJudged B d o = FaultOr (IsTypedDeclaration B d) (DeclarationFault B d) o

input_holds : (B : Earlier) (x : List ℕ) (t : InputTy) (o : Option Input) → input_named x B.inputs ≡ o → IsJudged B (InputIs x t) (fault_if o kind.Twice (input_fault B.ceiling t))
input_holds B x t (Some i) e = input_twice e
input_holds B x input.Truth None e = (e, tt)
input_holds B x (input.Whole least greatest) None e =
    range_holds B.ceiling least greatest (IsTypedDeclaration B (InputIs x (input.Whole least greatest))) (DeclarationFault B (InputIs x (input.Whole least greatest))) (λ r. (e, r)) (λ r. input_range e r)

metric_holds : (B : Earlier) (least greatest : ℕ) (o : Option (ℕ × ℕ)) → B.metric ≡ o → IsJudged B (MetricIs least greatest) (fault_if o kind.Twice (range_fault B.ceiling least greatest))
metric_holds B least greatest (Some m) e = metric_twice e
metric_holds B least greatest None e =
    range_holds B.ceiling least greatest (IsTypedDeclaration B (MetricIs least greatest)) (DeclarationFault B (MetricIs least greatest)) (λ r. (e, r)) (λ r. metric_range e r)

ceiling_holds : (B : Earlier) (n : ℕ) (b : Bool) → (n == 0) ≡ b → IsJudged B (CeilingIs n) (fault_where b kind.Range None)
ceiling_holds B n true e = ceiling_range (eqb-true n 0 e)
ceiling_holds B n false e = let d = eqb-false n 0 e in omega (arith, d)

module _ (B : Earlier) (f : List ℕ) (ps : List Parameter) (r : ValueType) (e : SourceTerm) where
  body_same : (t : ValueType) → IsNew f B → AreParameters [] ps → IsNarrow r → HasType B ps e t → (b : Bool) → same_type t r ≡ b → IsJudged B (DefIs f ps r e) (fault_unless b kind.Result)
  body_same t new params narrow h true q = let q' : t ≡ r = same_type_is t r q in let h' = rw q' at h in (new, params, narrow, h')
  body_same t new params narrow h false q = def_result new params narrow h (types_differ t r q)

  body_holds : IsNew f B → AreParameters [] ps → IsNarrow r → (j : JudgedType) → JudgementHolds B ps e j → IsJudged B (DefIs f ps r e) (body_fault r j)
  body_holds new params narrow (TypeFound t) h = body_same t new params narrow h (same_type t r) refl
  body_holds new params narrow (FaultFound k) h = def_body new params narrow h

  result_holds : IsNew f B → AreParameters [] ps → IsJudged B (DefIs f ps r e) (or_fault (width_fault r) (body_fault r (judge B ps e)))
  result_holds new params =
      or_holds (width_fault r) (body_fault r (judge B ps e)) (IsNarrow r) (IsTypedDeclaration B (DefIs f ps r e)) (DeclarationFault B (DefIs f ps r e))
      (width_holds r (IsNarrow r) (DeclarationFault B (DefIs f ps r e)) (λ n. n) (λ w. def_wide new params w))
      (λ n. body_holds new params n (judge B ps e) (judged B ps e))

  def_params : IsNew f B → (o : Option TypeKind) → FaultOr (AreParameters [] ps) (ParameterFault [] ps) o → IsJudged B (DefIs f ps r e) (or_fault o (or_fault (width_fault r) (body_fault r (judge B ps e))))
  def_params new None h = result_holds new h
  def_params new (Some k) h = def_parameter new h

  def_holds : (o : Option Function) → function_named f B.functions ≡ o → IsJudged B (DefIs f ps r e) (fault_if o kind.Twice (or_fault (parameter_fault [] ps) (or_fault (width_fault r) (body_fault r (judge B ps e)))))
  def_holds (Some g) q = def_twice (g, q)
  def_holds None q = def_params q (parameter_fault [] ps) (parameters_hold [] ps)

main_holds : (B : Earlier) (e : SourceTerm) (j : JudgedType) → JudgementHolds B [] e j → IsJudged B (MainIs e) (main_fault j)
main_holds B e (TypeFound (TypeLocal t)) h = (t, h)
main_holds B e (TypeFound (TypeField t)) h = main_not_local h
main_holds B e (FaultFound k) h = main_expression h

pub declaration_holds : (B : Earlier) (d : Declaration) → IsJudged B d (declaration_fault B d)
declaration_holds B (LanguageIs n) = tt
declaration_holds B (CeilingIs n) = ceiling_holds B n (n == 0) refl
declaration_holds B (InputIs x t) = input_holds B x t (input_named x B.inputs) refl
declaration_holds B (MetricIs least greatest) = metric_holds B least greatest B.metric refl
declaration_holds B (DefIs f ps r e) = def_holds B f ps r e (function_named f B.functions) refl
declaration_holds B (MainIs e) = main_holds B e (judge B [] e) (judged B [] e)

-- a declaration that is typed has no fault that is computed
range_none : (ceiling least greatest : ℕ) → IsRange ceiling least greatest → range_fault ceiling least greatest ≡ None
range_none ceiling least greatest r = let e = le-ltb greatest least r.0 in let f = le-ltb ceiling greatest r.1 in rw (e, f) refl

narrow_none : (t : ValueType) → IsNarrow t → width_fault t ≡ None
narrow_none t n = let e = le-ltb 8 (leaves (inner t)) n in rw e refl

parameters_none : (before : Scope) (ps : List Parameter) → AreParameters before ps → parameter_fault before ps ≡ None
parameters_none before [] h = refl
parameters_none before (p ∷ ps) h = let e = h.0 in let n = narrow_none p.type h.1 in let i = parameters_none (before ++ p ∷ []) ps h.2 in rw (e, n) i

input_none : (ceiling : ℕ) (t : InputTy) → IsInputRange ceiling t → input_fault ceiling t ≡ None
input_none ceiling input.Truth h = refl
input_none ceiling (input.Whole least greatest) h = range_none ceiling least greatest h

pub typed_none : (B : Earlier) (d : Declaration) → IsTypedDeclaration B d → declaration_fault B d ≡ None
typed_none B (LanguageIs n) h = refl
typed_none B (CeilingIs n) h = let d : n ≡ 0 → ⊥ = (λ q. absurd (omega arith)) in let e = ne_eqb n 0 d in rw e refl
typed_none B (InputIs x t) h = let e = h.0 in let i = input_none B.ceiling t h.1 in rw e i
typed_none B (MetricIs least greatest) h = let e = h.0 in let i = range_none B.ceiling least greatest h.1 in rw e i
typed_none B (DefIs f ps r body) h =
    let e = h.0 in let p = parameters_none [] ps h.1 in let n = narrow_none r h.2 in let j = type_judged h.3 in let s = same_type_refl r in rw (e, p, n, j, s) refl
typed_none B (MainIs e) h = let j = type_judged h.1 in rw j refl

-- and one at fault has the fault that is computed
range_some : (ceiling least greatest : ℕ) → IsNoRange ceiling least greatest → range_fault ceiling least greatest ≡ Some kind.Range
range_some ceiling least greatest h = go (nat_lt greatest least) (nat_lt ceiling greatest) refl refl
  where
    go : (a b : Bool) → nat_lt greatest least ≡ a → nat_lt ceiling greatest ≡ b → fault_where a kind.Range (fault_where b kind.Range None) ≡ Some kind.Range
    go true b e f = refl
    go false true e f = refl
    go false false e f =
        let p = ltb-false greatest least e in let q = ltb-false ceiling greatest f in
        elim h [ inl g ↦ absurd (omega arith) | inr g ↦ absurd (omega arith) ]

wide_some : (t : ValueType) → IsWide t → width_fault t ≡ Some kind.Wide
wide_some t w = let e = lt-ltb 8 (leaves (inner t)) w in rw e refl

parameters_some : {before : Scope} {ps : List Parameter} {k : TypeKind} → ParameterFault before ps k → parameter_fault before ps ≡ Some k
parameters_some (parameter_twice b) = let e = b.1 in rw e refl
parameters_some (parameter_wide {p = p} f w) = let e = wide_some p.type w in rw (f, e) refl
parameters_some (parameter_later {p = p} f n h) = let e = narrow_none p.type n in let i = parameters_some h in rw (f, e) i

differs : (t r : ValueType) → (t ≡ r → ⊥) → (b : Bool) → same_type t r ≡ b → b ≡ false
differs t r d true e = absurd (d (same_type_is t r e))
differs t r d false e = refl

pub fault_some : {B : Earlier} {d : Declaration} {k : TypeKind} → DeclarationFault B d k → declaration_fault B d ≡ Some k
fault_some (ceiling_range e) = rw e refl
fault_some (input_twice e) = rw e refl
fault_some (input_range {B = B} {least = least} {greatest = greatest} e r) = let i = range_some B.ceiling least greatest r in rw e i
fault_some (metric_twice e) = rw e refl
fault_some (metric_range {B = B} {least = least} {greatest = greatest} e r) = let i = range_some B.ceiling least greatest r in rw e i
fault_some (def_twice g) = let e = g.1 in rw e refl
fault_some (def_parameter e h) = let i = parameters_some h in rw (e, i) refl
fault_some (def_wide {ps = ps} {r = r} e h w) = let p = parameters_none [] ps h in let i = wide_some r w in rw (e, p, i) refl
fault_some (def_body {ps = ps} {r = r} e h n g) = let p = parameters_none [] ps h in let i = narrow_none r n in let j = fault_judged g in rw (e, p, i, j) refl
fault_some (def_result {ps = ps} {r = r} {t = t} e h n g d) =
    let p = parameters_none [] ps h in let i = narrow_none r n in let j = type_judged g in let s = differs t r d (same_type t r) refl in rw (e, p, i, j, s) refl
fault_some (main_expression h) = let j = fault_judged h in rw j refl
fault_some (main_not_local h) = let j = type_judged h in rw j refl

-- whole programs
abbrev pub TypedOrFault : ℕ → Earlier → List Declaration → Type 0
TypedOrFault n B ds = AreTyped B ds ⊎ ((m : ℕ) × (k : TypeKind) × FirstFaultFrom n B ds m k)

module _ (n : ℕ) (B : Earlier) (d : Declaration) (ds : List Declaration) where
  one_more : IsTypedDeclaration B d → TypedOrFault (suc n) (with_declaration B d) ds → TypedOrFault n B (d ∷ ds)
  one_more h (inl a) = inl (h, a)
  one_more h (inr f) = inr (f.0, f.1, later h f.2)

  first_or_rest : (o : Option TypeKind) → IsJudged B d o → TypedOrFault (suc n) (with_declaration B d) ds → TypedOrFault n B (d ∷ ds)
  first_or_rest None h r = one_more h r
  first_or_rest (Some k) h r = inr (n, k, here h)

pub typed_or_fault : (n : ℕ) (B : Earlier) (ds : List Declaration) → TypedOrFault n B ds
typed_or_fault n B [] = inl tt
typed_or_fault n B (d ∷ ds) = first_or_rest n B d ds (declaration_fault B d) (declaration_holds B d) (typed_or_fault (suc n) (with_declaration B d) ds)

pub not_typed : {n : ℕ} {B : Earlier} {ds : List Declaration} {m : ℕ} {k : TypeKind} → AreTyped B ds → FirstFaultFrom n B ds m k → ⊥
not_typed {B = B} a (here {d = d} f) = let e = typed_none B d a.0 in let g = fault_some f in cc
not_typed a (later h f) = not_typed a.1 f

pub one_first : {n : ℕ} {B : Earlier} {ds : List Declaration} {m m' : ℕ} {k l : TypeKind} → FirstFaultFrom n B ds m k → FirstFaultFrom n B ds m' l → (m ≡ m') × (k ≡ l)
one_first (here f) (here g) = let e = fault_some f in let e' = fault_some g in (refl, cc)
one_first {B = B} (here {d = d} f) (later h g) = let e = fault_some f in let e' = typed_none B d h in absurd cc
one_first {B = B} (later {d = d} h f) (here g) = let e = fault_some g in let e' = typed_none B d h in absurd cc
one_first (later h f) (later h' g) = one_first f g

-- what an answer for a fault of a program says
pub typed_memory : (ds : List Declaration) (f : TypeFault) → IfFault f (FirstFault ds) → AreTyped nothing_declared ds → IsMemory f
typed_memory ds (fault.Fault n k) h a = not_typed a h
typed_memory ds fault.Memory h a = tt

pub first_or_memory : (ds : List Declaration) (n : ℕ) (k : TypeKind) (f : TypeFault) → IfFault f (FirstFault ds) → FirstFault ds n k → IsFaultOrMemory n k f
first_or_memory ds n k (fault.Fault m l) h g = one_first h g
first_or_memory ds n k fault.Memory h g = tt
