-- What is computed for an expression is its type, or its first fault.
use Rattle.std.proofs.Common.{◌≡◌, ◌⊎◌, inl, inr, refl, sym, ap, ◌∙◌, ℕ, ◌<◌, nat_le, ◌==◌, arith, Bool, true, false, ◌&&◌, List, length, Option, Some, None}
use Rattle.std.proofs.lemmas.Bool.{and_parts, and_cases, le-leb, leb-true, leb-false, eqb-true, eqb-false, eq-eqb, ne_eqb}
use Rattle.std.proofs.lemmas.List.{length-map}
use Rattle.fc_values.specs.Types.{LocalType, BoolType, ValueType, TypeLocal, TypeField, Input}
use Rattle.fc_syntax.specs.Terms.{SourceTerm, IntTerm, TruthTerm, VarTerm, UidTerm, NbrLinkTerm, SenseTerm, ApplyTerm, NbrTerm, RepTerm, ShareTerm, IfTerm, LetTerm, CallTerm, SourceTerms, NoTerms, MoreTerms, Parameter}
use Rattle.fc_values.specs.declared.builtins.Builtin.{Builtin}
use Rattle.fc_types.specs.declared.faults.TypeKind.{TypeKind}
use Rattle.fc_types.specs.declared.faults.TypeKind.TheVariants as kind
use Rattle.fc_types.specs.Before.{Function, Earlier, input_named, function_named, Scope, with_variable, type_in}
use Rattle.fc_types.specs.Typing.{HasType, int_type, truth_type, variable_type, uid_type, nbr_link_type, sense_type, builtin_type, nbr_type, rep_type, share_type, if_type, let_type, call_type, HaveTypes, no_types, more_types, parameter_types}
use Rattle.fc_types.specs.Faults.{IsField, shared_type, FirstFaultIn, int_literal, variable_unknown, sense_unknown, in_argument, call_unknown, call_count, call_mismatch, in_operand, builtin_mismatch, builtin_wide, in_nbr, nbr_not_local, in_rep_first, in_rep_body, rep_not_local, rep_mismatch, rep_twice, in_share_first, in_share_body, share_not_local, share_mismatch, share_twice, in_condition, in_then, in_else, if_not_local, if_mismatch, in_bound, in_body, let_twice, FirstFaultAmong, in_first, in_later}
use Rattle.fc_types.specs.Judging.{JudgedType, TypeFound, FaultFound, JudgedTypes, TypesAre, FaultAmong, go_on, go_on_with, row_of, same_local, same_types, judge_builtin, judge_number, judge_variable, judge_sense, judge_nbr, unless_bound, where_same, judge_evolving, judge_if, judge_call, judge, judge_all}
use Rattle.fc_types.proofs.Same.{same_local_refl, same_local_is, differ, same_types_refl, same_types_is, rows_differ}
use Rattle.fc_types.proofs.Rules.{judged_rule, rule_judged, no_rule, fault_kind, mismatch_judged, wide_judged}

-- a judgement holds of an expression
abbrev pub JudgementHolds : Earlier → Scope → SourceTerm → JudgedType → Type 0
JudgementHolds B scope e (TypeFound t) = HasType B scope e t
JudgementHolds B scope e (FaultFound k) = FirstFaultIn B scope e k

abbrev pub JudgementsHold : Earlier → Scope → SourceTerms → JudgedTypes → Type 0
JudgementsHold B scope es (TypesAre ts) = HaveTypes B scope es ts
JudgementsHold B scope es (FaultAmong k) = FirstFaultAmong B scope es k

module _ (B : Earlier) (scope : Scope) where
  number_holds : (n : ℕ) (b : Bool) → nat_le n B.ceiling ≡ b → JudgementHolds B scope (IntTerm n) (judge_number b)
  number_holds n true e = int_type (leb-true n B.ceiling e)
  number_holds n false e = int_literal (leb-false n B.ceiling e)

  variable_holds : (x : List ℕ) (o : Option ValueType) → type_in x scope ≡ o → JudgementHolds B scope (VarTerm x) (judge_variable o)
  variable_holds x None e = variable_unknown e
  variable_holds x (Some t) e = variable_type e

  sense_holds : (x : List ℕ) (o : Option Input) → input_named x B.inputs ≡ o → JudgementHolds B scope (SenseTerm x) (judge_sense o)
  sense_holds x None e = sense_unknown e
  sense_holds x (Some i) e = sense_type e

  builtin_node : (b : Builtin) (es : SourceTerms) (ts : List ValueType) → HaveTypes B scope es ts → (j : JudgedType) → judge_builtin b ts ≡ j → JudgementHolds B scope (ApplyTerm b es) j
  builtin_node b es ts h (TypeFound t) e = builtin_type h (judged_rule b ts t e)
  builtin_node b es ts h (FaultFound k) e = elim (fault_kind b ts k e) [
    | inl m ↦ (let s : k ≡ kind.Mismatch = m.0 in rw s (builtin_mismatch h (no_rule b ts k e) m.1))
    | inr w ↦ (let s : k ≡ kind.Wide = w.0 in rw s (builtin_wide h w.1))
  ]

  builtin_holds : (b : Builtin) (es : SourceTerms) (js : JudgedTypes) → JudgementsHold B scope es js → JudgementHolds B scope (ApplyTerm b es) (go_on_with js (judge_builtin b))
  builtin_holds b es (TypesAre ts) h = builtin_node b es ts h (judge_builtin b ts) refl
  builtin_holds b es (FaultAmong k) h = in_operand h

  nbr_holds : (e : SourceTerm) (j : JudgedType) → JudgementHolds B scope e j → JudgementHolds B scope (NbrTerm e) (go_on j judge_nbr)
  nbr_holds e (TypeFound (TypeLocal t)) h = nbr_type h
  nbr_holds e (TypeFound (TypeField t)) h = nbr_not_local h
  nbr_holds e (FaultFound k) h = in_nbr h

  rep_same : (e : SourceTerm) (x : List ℕ) (b : SourceTerm) (s t : LocalType) → s ≡ t → HasType B scope e (TypeLocal s) → HasType B (with_variable x (TypeLocal s) scope) b (TypeLocal t) →
      (o : Option ValueType) → type_in x scope ≡ o → JudgementHolds B scope (RepTerm e x b) (unless_bound o (TypeLocal s))
  rep_same e x b s t q h h' None f = let q' : t ≡ s = sym q in let h'' = rw q' at h' in rep_type h h'' f
  rep_same e x b s t q h h' (Some u) f = let q' : t ≡ s = sym q in let h'' = rw q' at h' in rep_twice h h'' (u, f)

  rep_local : (e : SourceTerm) (x : List ℕ) (b : SourceTerm) (s t : LocalType) → HasType B scope e (TypeLocal s) → HasType B (with_variable x (TypeLocal s) scope) b (TypeLocal t) →
      (same : Bool) → same_local s t ≡ same → JudgementHolds B scope (RepTerm e x b) (where_same same kind.Mismatch (unless_bound (type_in x scope) (TypeLocal s)))
  rep_local e x b s t h h' true q = rep_same e x b s t (same_local_is s t q) h h' (type_in x scope) refl
  rep_local e x b s t h h' false q = rep_mismatch h h' (differ s t q)

  rep_node : (e : SourceTerm) (x : List ℕ) (b : SourceTerm) (s t : ValueType) → HasType B scope e s → HasType B (with_variable x s scope) b t →
      JudgementHolds B scope (RepTerm e x b) (judge_evolving (type_in x scope) s t)
  rep_node e x b (TypeLocal s) (TypeLocal t) h h' = rep_local e x b s t h h' (same_local s t) refl
  rep_node e x b (TypeLocal s) (TypeField t) h h' = rep_not_local h h' (inr tt)
  rep_node e x b (TypeField s) (TypeLocal t) h h' = rep_not_local h h' (inl tt)
  rep_node e x b (TypeField s) (TypeField t) h h' = rep_not_local h h' (inl tt)

  rep_body_holds : (e : SourceTerm) (x : List ℕ) (b : SourceTerm) (s : ValueType) → HasType B scope e s → (j : JudgedType) → JudgementHolds B (with_variable x s scope) b j →
      JudgementHolds B scope (RepTerm e x b) (go_on j (judge_evolving (type_in x scope) s))
  rep_body_holds e x b s h (TypeFound t) h' = rep_node e x b s t h h'
  rep_body_holds e x b s h (FaultFound k) h' = in_rep_body h h'

  rep_holds : (e : SourceTerm) (x : List ℕ) (b : SourceTerm) (j : JudgedType) → JudgementHolds B scope e j → (f : ValueType → JudgedType) → ((s : ValueType) → JudgementHolds B (with_variable x s scope) b (f s)) →
      JudgementHolds B scope (RepTerm e x b) (go_on j (λ s. go_on (f s) (judge_evolving (type_in x scope) s)))
  rep_holds e x b (TypeFound s) h f g = rep_body_holds e x b s h (f s) (g s)
  rep_holds e x b (FaultFound k) h f g = in_rep_first h

  share_same : (e : SourceTerm) (x : List ℕ) (b : SourceTerm) (s t : LocalType) → s ≡ t → HasType B scope e (TypeLocal s) → HasType B (with_variable x (TypeField s) scope) b (TypeLocal t) →
      (o : Option ValueType) → type_in x scope ≡ o → JudgementHolds B scope (ShareTerm e x b) (unless_bound o (TypeLocal s))
  share_same e x b s t q h h' None f = let q' : t ≡ s = sym q in let h'' = rw q' at h' in share_type h h'' f
  share_same e x b s t q h h' (Some u) f = let q' : t ≡ s = sym q in let h'' = rw q' at h' in share_twice h h'' (u, f)

  share_local : (e : SourceTerm) (x : List ℕ) (b : SourceTerm) (s t : LocalType) → HasType B scope e (TypeLocal s) → HasType B (with_variable x (TypeField s) scope) b (TypeLocal t) →
      (same : Bool) → same_local s t ≡ same → JudgementHolds B scope (ShareTerm e x b) (where_same same kind.Mismatch (unless_bound (type_in x scope) (TypeLocal s)))
  share_local e x b s t h h' true q = share_same e x b s t (same_local_is s t q) h h' (type_in x scope) refl
  share_local e x b s t h h' false q = share_mismatch h h' (differ s t q)

  share_node : (e : SourceTerm) (x : List ℕ) (b : SourceTerm) (s t : ValueType) → HasType B scope e s → HasType B (with_variable x (shared_type s) scope) b t →
      JudgementHolds B scope (ShareTerm e x b) (judge_evolving (type_in x scope) s t)
  share_node e x b (TypeLocal s) (TypeLocal t) h h' = share_local e x b s t h h' (same_local s t) refl
  share_node e x b (TypeLocal s) (TypeField t) h h' = share_not_local h h' (inr tt)
  share_node e x b (TypeField s) (TypeLocal t) h h' = share_not_local h h' (inl tt)
  share_node e x b (TypeField s) (TypeField t) h h' = share_not_local h h' (inl tt)

  share_body_holds : (e : SourceTerm) (x : List ℕ) (b : SourceTerm) (s : ValueType) → HasType B scope e s → (j : JudgedType) → JudgementHolds B (with_variable x (shared_type s) scope) b j →
      JudgementHolds B scope (ShareTerm e x b) (go_on j (judge_evolving (type_in x scope) s))
  share_body_holds e x b s h (TypeFound t) h' = share_node e x b s t h h'
  share_body_holds e x b s h (FaultFound k) h' = in_share_body h h'

  share_holds : (e : SourceTerm) (x : List ℕ) (b : SourceTerm) (j : JudgedType) → JudgementHolds B scope e j → (f : ValueType → JudgedType) → ((s : ValueType) → JudgementHolds B (with_variable x (shared_type s) scope) b (f s)) →
      JudgementHolds B scope (ShareTerm e x b) (go_on j (λ s. go_on (f s) (judge_evolving (type_in x scope) s)))
  share_holds e x b (TypeFound s) h f g = share_body_holds e x b s h (f s) (g s)
  share_holds e x b (FaultFound k) h f g = in_share_first h

  not_both : (r s t : LocalType) → (same_local r BoolType && same_local s t) ≡ false → (r ≡ BoolType) × (s ≡ t) → ⊥
  not_both r s t q p = elim (and_cases (same_local r BoolType) (same_local s t) q) [ inl f ↦ differ r BoolType f p.0 | inr f ↦ differ s t f p.1 ]

  if_local : (c a b : SourceTerm) (r s t : LocalType) → HasType B scope c (TypeLocal r) → HasType B scope a (TypeLocal s) → HasType B scope b (TypeLocal t) →
      (same : Bool) → (same_local r BoolType && same_local s t) ≡ same → JudgementHolds B scope (IfTerm c a b) (where_same same kind.Mismatch (TypeFound (TypeLocal s)))
  if_local c a b r s t h h' h'' true q =
      let p = and_parts (same_local r BoolType) (same_local s t) q in
      let d : r ≡ BoolType = same_local_is r BoolType p.0 in
      let e : t ≡ s = sym (same_local_is s t p.1) in
      let i = rw d at h in
      let i'' = rw e at h'' in
      if_type i h' i''
  if_local c a b r s t h h' h'' false q = if_mismatch h h' h'' (not_both r s t q)

  if_node : (c a b : SourceTerm) (r s t : ValueType) → HasType B scope c r → HasType B scope a s → HasType B scope b t → JudgementHolds B scope (IfTerm c a b) (judge_if r s t)
  if_node c a b (TypeLocal r) (TypeLocal s) (TypeLocal t) h h' h'' = if_local c a b r s t h h' h'' (same_local r BoolType && same_local s t) refl
  if_node c a b (TypeLocal r) (TypeLocal s) (TypeField t) h h' h'' = if_not_local h h' h'' (inr (inr tt))
  if_node c a b (TypeLocal r) (TypeField s) (TypeLocal t) h h' h'' = if_not_local h h' h'' (inr (inl tt))
  if_node c a b (TypeLocal r) (TypeField s) (TypeField t) h h' h'' = if_not_local h h' h'' (inr (inl tt))
  if_node c a b (TypeField r) (TypeLocal s) (TypeLocal t) h h' h'' = if_not_local h h' h'' (inl tt)
  if_node c a b (TypeField r) (TypeLocal s) (TypeField t) h h' h'' = if_not_local h h' h'' (inl tt)
  if_node c a b (TypeField r) (TypeField s) (TypeLocal t) h h' h'' = if_not_local h h' h'' (inl tt)
  if_node c a b (TypeField r) (TypeField s) (TypeField t) h h' h'' = if_not_local h h' h'' (inl tt)

  if_holds : (c a b : SourceTerm) (j : JudgedType) → JudgementHolds B scope c j → (j' : JudgedType) → JudgementHolds B scope a j' → (j'' : JudgedType) → JudgementHolds B scope b j'' →
      JudgementHolds B scope (IfTerm c a b) (go_on j (λ r. go_on j' (λ s. go_on j'' (judge_if r s))))
  if_holds c a b (FaultFound k) h j' h' j'' h'' = in_condition h
  if_holds c a b (TypeFound r) h (FaultFound k) h' j'' h'' = in_then h h'
  if_holds c a b (TypeFound r) h (TypeFound s) h' (FaultFound k) h'' = in_else h h' h''
  if_holds c a b (TypeFound r) h (TypeFound s) h' (TypeFound t) h'' = if_node c a b r s t h h' h''

  let_node : (x : List ℕ) (a b : SourceTerm) (s t : ValueType) → HasType B scope a s → HasType B (with_variable x s scope) b t →
      (o : Option ValueType) → type_in x scope ≡ o → JudgementHolds B scope (LetTerm x a b) (unless_bound o t)
  let_node x a b s t h h' None f = let_type h h' f
  let_node x a b s t h h' (Some u) f = let_twice h h' (u, f)

  let_body_holds : (x : List ℕ) (a b : SourceTerm) (s : ValueType) → HasType B scope a s → (j : JudgedType) → JudgementHolds B (with_variable x s scope) b j →
      JudgementHolds B scope (LetTerm x a b) (go_on j (unless_bound (type_in x scope)))
  let_body_holds x a b s h (TypeFound t) h' = let_node x a b s t h h' (type_in x scope) refl
  let_body_holds x a b s h (FaultFound k) h' = in_body h h'

  let_holds : (x : List ℕ) (a b : SourceTerm) (j : JudgedType) → JudgementHolds B scope a j → (f : ValueType → JudgedType) → ((s : ValueType) → JudgementHolds B (with_variable x s scope) b (f s)) →
      JudgementHolds B scope (LetTerm x a b) (go_on j (λ s. go_on (f s) (unless_bound (type_in x scope))))
  let_holds x a b (TypeFound s) h f g = let_body_holds x a b s h (f s) (g s)
  let_holds x a b (FaultFound k) h f g = in_bound h

  call_typed : (f : List ℕ) (es : SourceTerms) (ts : List ValueType) (g : Function) → HaveTypes B scope es ts → function_named f B.functions ≡ Some g → length ts ≡ length g.params →
      (same : Bool) → same_types ts (parameter_types g) ≡ same → JudgementHolds B scope (CallTerm f es) (where_same same kind.Mismatch (TypeFound g.result))
  call_typed f es ts g h e l true q = let q' : ts ≡ parameter_types g = same_types_is ts (parameter_types g) q in let h' = rw q' at h in call_type e h'
  call_typed f es ts g h e l false q = call_mismatch h e l (rows_differ ts (parameter_types g) q)

  call_counted : (f : List ℕ) (es : SourceTerms) (ts : List ValueType) (g : Function) → HaveTypes B scope es ts → function_named f B.functions ≡ Some g →
      (same : Bool) → (length ts == length g.params) ≡ same → JudgementHolds B scope (CallTerm f es) (where_same same kind.Count (where_same (same_types ts (parameter_types g)) kind.Mismatch (TypeFound g.result)))
  call_counted f es ts g h e true q = call_typed f es ts g h e (eqb-true (length ts) (length g.params) q) (same_types ts (parameter_types g)) refl
  call_counted f es ts g h e false q = call_count h e (λ l. eqb-false (length ts) (length g.params) q l)

  call_node : (f : List ℕ) (es : SourceTerms) (ts : List ValueType) → HaveTypes B scope es ts → (o : Option Function) → function_named f B.functions ≡ o →
      JudgementHolds B scope (CallTerm f es) (judge_call o ts)
  call_node f es ts h None e = call_unknown h e
  call_node f es ts h (Some g) e = call_counted f es ts g h e (length ts == length g.params) refl

  call_holds : (f : List ℕ) (es : SourceTerms) (js : JudgedTypes) → JudgementsHold B scope es js → JudgementHolds B scope (CallTerm f es) (go_on_with js (judge_call (function_named f B.functions)))
  call_holds f es (TypesAre ts) h = call_node f es ts h (function_named f B.functions) refl
  call_holds f es (FaultAmong k) h = in_argument h

  row_holds : (e : SourceTerm) (es : SourceTerms) (j : JudgedType) → JudgementHolds B scope e j → (js : JudgedTypes) → JudgementsHold B scope es js → JudgementsHold B scope (MoreTerms e es) (row_of j js)
  row_holds e es (FaultFound k) h js h' = in_first h
  row_holds e es (TypeFound t) h (TypesAre ts) h' = more_types h h'
  row_holds e es (TypeFound t) h (FaultAmong k) h' = in_later h h'

mutual
  pub judged : (B : Earlier) (scope : Scope) (e : SourceTerm) → JudgementHolds B scope e (judge B scope e)
  judged B scope (IntTerm n) = number_holds B scope n (nat_le n B.ceiling) refl
  judged B scope (TruthTerm b) = truth_type
  judged B scope (VarTerm x) = variable_holds B scope x (type_in x scope) refl
  judged B scope UidTerm = uid_type
  judged B scope NbrLinkTerm = nbr_link_type
  judged B scope (SenseTerm x) = sense_holds B scope x (input_named x B.inputs) refl
  judged B scope (ApplyTerm b es) = builtin_holds B scope b es (judge_all B scope es) (all_judged B scope es)
  judged B scope (NbrTerm e) = nbr_holds B scope e (judge B scope e) (judged B scope e)
  judged B scope (RepTerm e x b) = rep_holds B scope e x b (judge B scope e) (judged B scope e) (λ s. judge B (with_variable x s scope) b) (λ s. judged B (with_variable x s scope) b)
  judged B scope (ShareTerm e x b) = share_holds B scope e x b (judge B scope e) (judged B scope e) (λ s. judge B (with_variable x (shared_type s) scope) b) (λ s. judged B (with_variable x (shared_type s) scope) b)
  judged B scope (IfTerm c a b) = if_holds B scope c a b (judge B scope c) (judged B scope c) (judge B scope a) (judged B scope a) (judge B scope b) (judged B scope b)
  judged B scope (LetTerm x a b) = let_holds B scope x a b (judge B scope a) (judged B scope a) (λ s. judge B (with_variable x s scope) b) (λ s. judged B (with_variable x s scope) b)
  judged B scope (CallTerm f es) = call_holds B scope f es (judge_all B scope es) (all_judged B scope es)

  pub all_judged : (B : Earlier) (scope : Scope) (es : SourceTerms) → JudgementsHold B scope es (judge_all B scope es)
  all_judged B scope NoTerms = no_types
  all_judged B scope (MoreTerms e es) = row_holds B scope e es (judge B scope e) (judged B scope e) (judge_all B scope es) (all_judged B scope es)

as_long : (ts : List ValueType) (g : Function) → ts ≡ parameter_types g → length ts ≡ length g.params
as_long ts g e = ap length e ∙ length-map g.params (λ (p : Parameter). p.type)

call_is : (g : Function) → judge_call (Some g) (parameter_types g) ≡ TypeFound g.result
call_is g =
    let l : (length (parameter_types g) == length g.params) ≡ true = eq-eqb (length (parameter_types g)) (length g.params) (as_long (parameter_types g) g refl) in
    let s = same_types_refl (parameter_types g) in rw (l, s) refl

-- a type that an expression has is the one that is computed
mutual
  pub type_judged : {B : Earlier} {scope : Scope} {e : SourceTerm} {t : ValueType} → HasType B scope e t → judge B scope e ≡ TypeFound t
  type_judged (int_type {B = B} {n = n} h) = let e = le-leb n B.ceiling h in rw e refl
  type_judged truth_type = refl
  type_judged (variable_type h) = rw h refl
  type_judged uid_type = refl
  type_judged nbr_link_type = refl
  type_judged (sense_type h) = rw h refl
  type_judged (builtin_type {b = b} {ts = ts} {t = t} h r) = let i = types_judged h in let j = rule_judged b ts t r in rw i j
  type_judged (nbr_type h) = let i = type_judged h in rw i refl
  type_judged (rep_type {t = t} h h' f) = let i = type_judged h in let j = type_judged h' in let s = same_local_refl t in rw (i, j, s, f) refl
  type_judged (share_type {t = t} h h' f) = let i = type_judged h in let j = type_judged h' in let s = same_local_refl t in rw (i, j, s, f) refl
  type_judged (if_type {t = t} h h' h'') = let i = type_judged h in let j = type_judged h' in let k = type_judged h'' in let s = same_local_refl t in rw (i, j, k, s) refl
  type_judged (let_type h h' f) = let i = type_judged h in let j = type_judged h' in rw (i, j, f) refl
  type_judged (call_type {g = g} e h) = let i = types_judged h in let c = call_is g in rw (i, e) c

  pub types_judged : {B : Earlier} {scope : Scope} {es : SourceTerms} {ts : List ValueType} → HaveTypes B scope es ts → judge_all B scope es ≡ TypesAre ts
  types_judged no_types = refl
  types_judged (more_types h h') = let i = type_judged h in let j = types_judged h' in rw (i, j) refl

not_found : (s t : LocalType) (b : Bool) → same_local s t ≡ b → (s ≡ t → ⊥) → b ≡ false
not_found s t true e h = absurd (h (same_local_is s t e))
not_found s t false e h = refl

neither_found : (r s t : LocalType) (b : Bool) → (same_local r BoolType && same_local s t) ≡ b → ((r ≡ BoolType) × (s ≡ t) → ⊥) → b ≡ false
neither_found r s t true e h = let p = and_parts (same_local r BoolType) (same_local s t) e in absurd (h (same_local_is r BoolType p.0, same_local_is s t p.1))
neither_found r s t false e h = refl

no_row : (ss ts : List ValueType) (b : Bool) → same_types ss ts ≡ b → (ss ≡ ts → ⊥) → b ≡ false
no_row ss ts true e h = absurd (h (same_types_is ss ts e))
no_row ss ts false e h = refl

above : (n m : ℕ) → m < n → (b : Bool) → nat_le n m ≡ b → b ≡ false
above n m h true e = let l = leb-true n m e in absurd (omega arith)
above n m h false e = refl

evolving_field : (o : Option ValueType) (s t : ValueType) → IsField s ⊎ IsField t → judge_evolving o s t ≡ FaultFound kind.NotLocal
evolving_field o (TypeLocal s) (TypeLocal t) h = elim h [ inl f ↦ absurd f | inr f ↦ absurd f ]
evolving_field o (TypeLocal s) (TypeField t) h = refl
evolving_field o (TypeField s) (TypeLocal t) h = refl
evolving_field o (TypeField s) (TypeField t) h = refl

if_field : (r s t : ValueType) → IsField r ⊎ IsField s ⊎ IsField t → judge_if r s t ≡ FaultFound kind.NotLocal
if_field (TypeLocal r) (TypeLocal s) (TypeLocal t) h = elim h [ inl f ↦ absurd f | inr f ↦ elim f [ inl g ↦ absurd g | inr g ↦ absurd g ] ]
if_field (TypeLocal r) (TypeLocal s) (TypeField t) h = refl
if_field (TypeLocal r) (TypeField s) (TypeLocal t) h = refl
if_field (TypeLocal r) (TypeField s) (TypeField t) h = refl
if_field (TypeField r) (TypeLocal s) (TypeLocal t) h = refl
if_field (TypeField r) (TypeLocal s) (TypeField t) h = refl
if_field (TypeField r) (TypeField s) (TypeLocal t) h = refl
if_field (TypeField r) (TypeField s) (TypeField t) h = refl

-- a first fault that an expression has is the one that is computed
mutual
  pub fault_judged : {B : Earlier} {scope : Scope} {e : SourceTerm} {k : TypeKind} → FirstFaultIn B scope e k → judge B scope e ≡ FaultFound k
  fault_judged (int_literal {B = B} {n = n} h) = let e = above n B.ceiling h (nat_le n B.ceiling) refl in rw e refl
  fault_judged (variable_unknown h) = rw h refl
  fault_judged (sense_unknown h) = rw h refl
  fault_judged (in_argument h) = let i = among_judged h in rw i refl
  fault_judged (call_unknown h e) = let i = types_judged h in rw (i, e) refl
  fault_judged (call_count {ts = ts} {g = g} h e l) = let i = types_judged h in let c : (length ts == length g.params) ≡ false = ne_eqb (length ts) (length g.params) l in rw (i, e, c) refl
  fault_judged (call_mismatch {ts = ts} {g = g} h e l d) =
      let i = types_judged h in
      let c : (length ts == length g.params) ≡ true = eq-eqb (length ts) (length g.params) l in
      let s = no_row ts (parameter_types g) (same_types ts (parameter_types g)) refl d in
      rw (i, e, c, s) refl
  fault_judged (in_operand h) = let i = among_judged h in rw i refl
  fault_judged (builtin_mismatch {b = b} {ts = ts} h none narrow) = let i = types_judged h in let j = mismatch_judged b ts none narrow in rw i j
  fault_judged (builtin_wide {b = b} {ts = ts} h w) = let i = types_judged h in let j = wide_judged b ts w in rw i j
  fault_judged (in_nbr h) = let i = fault_judged h in rw i refl
  fault_judged (nbr_not_local h) = let i = type_judged h in rw i refl
  fault_judged (in_rep_first h) = let i = fault_judged h in rw i refl
  fault_judged (in_rep_body h h') = let i = type_judged h in let j = fault_judged h' in rw (i, j) refl
  fault_judged (rep_not_local {scope = scope} {x = x} {s = s} {t = t} h h' f) = let i = type_judged h in let j = type_judged h' in let l = evolving_field (type_in x scope) s t f in rw (i, j) l
  fault_judged (rep_mismatch {s = s} {t = t} h h' d) = let i = type_judged h in let j = type_judged h' in let n = not_found s t (same_local s t) refl d in rw (i, j, n) refl
  fault_judged (rep_twice {t = t} h h' f) = let i = type_judged h in let j = type_judged h' in let s = same_local_refl t in let e = f.1 in rw (i, j, s, e) refl
  fault_judged (in_share_first h) = let i = fault_judged h in rw i refl
  fault_judged (in_share_body h h') = let i = type_judged h in let j = fault_judged h' in rw (i, j) refl
  fault_judged (share_not_local {scope = scope} {x = x} {s = s} {t = t} h h' f) = let i = type_judged h in let j = type_judged h' in let l = evolving_field (type_in x scope) s t f in rw (i, j) l
  fault_judged (share_mismatch {s = s} {t = t} h h' d) = let i = type_judged h in let j = type_judged h' in let n = not_found s t (same_local s t) refl d in rw (i, j, n) refl
  fault_judged (share_twice {t = t} h h' f) = let i = type_judged h in let j = type_judged h' in let s = same_local_refl t in let e = f.1 in rw (i, j, s, e) refl
  fault_judged (in_condition h) = let i = fault_judged h in rw i refl
  fault_judged (in_then h h') = let i = type_judged h in let j = fault_judged h' in rw (i, j) refl
  fault_judged (in_else h h' h'') = let i = type_judged h in let j = type_judged h' in let k = fault_judged h'' in rw (i, j, k) refl
  fault_judged (if_not_local {r = r} {s = s} {t = t} h h' h'' f) = let i = type_judged h in let j = type_judged h' in let k = type_judged h'' in let l = if_field r s t f in rw (i, j, k) l
  fault_judged (if_mismatch {r = r} {s = s} {t = t} h h' h'' d) =
      let i = type_judged h in let j = type_judged h' in let k = type_judged h'' in
      let n = neither_found r s t (same_local r BoolType && same_local s t) refl d in rw (i, j, k, n) refl
  fault_judged (in_bound h) = let i = fault_judged h in rw i refl
  fault_judged (in_body h h') = let i = type_judged h in let j = fault_judged h' in rw (i, j) refl
  fault_judged (let_twice h h' f) = let i = type_judged h in let j = type_judged h' in let e = f.1 in rw (i, j, e) refl

  pub among_judged : {B : Earlier} {scope : Scope} {es : SourceTerms} {k : TypeKind} → FirstFaultAmong B scope es k → judge_all B scope es ≡ FaultAmong k
  among_judged (in_first h) = let i = fault_judged h in rw i refl
  among_judged (in_later h h') = let i = type_judged h in let j = among_judged h' in rw (i, j) refl
