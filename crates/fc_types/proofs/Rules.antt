-- Crates above cite this module: the type that is computed for a builtin is that of its rule.
use Rattle.std.proofs.Common.{◌≡◌, ◌⊎◌, inl, inr, refl, sym, ap, ◌∙◌, ℕ, ◌+◌, ◌<◌, nat_le, ◌==◌, arith, Bool, true, false, ◌&&◌, List, [], ◌∷◌, length, replicate, Option, Some, None}
use Rattle.std.proofs.lemmas.Bool.{and_parts, le-leb, leb-true, leb-false, eqb-true}
use Rattle.fc_values.specs.declared.builtins.Builtin.{Builtin}
use Rattle.fc_values.specs.declared.builtins.Builtin.TheVariants as op
use Rattle.fc_values.specs.Types.{LocalType, IntType, BoolType, PairType, ValueType, TypeLocal, TypeField, leaves}
use Rattle.fc_values.specs.Builtins.{is_hood}
use Rattle.fc_values.specs.BuiltinTypes.{Takes, takes_add, takes_sub, takes_mul, takes_rise, takes_min, takes_max, takes_less, takes_equal, takes_and, takes_or, takes_not, takes_mux, takes_pair, takes_fst, takes_snd, Folds, folds_min, folds_max, folds_sum, folds_any, folds_all, HasRule, rule_by, inner, inners, has_field, lifted}
use Rattle.fc_types.specs.declared.faults.TypeKind.{TypeKind}
use Rattle.fc_types.specs.declared.faults.TypeKind.TheVariants as kind
use Rattle.fc_types.specs.Faults.{HasNoRule, IsWidePair}
use Rattle.fc_types.specs.Judging.{JudgedType, TypeFound, FaultFound, same_local, each_is, type_if, type_if_all, alike_type, choice_type, narrow_pair_type, operator_type, field_and_local_type, field_alone_type, hood_type, why_not, type_or, judge_hood_or, judge_builtin}
use Rattle.fc_types.proofs.Same.{same_local_refl, same_local_is}

given_is : (b : Bool) (s t : LocalType) → type_if b s ≡ Some t → (b ≡ true) × (s ≡ t)
given_is true s t h = (refl, cc)
given_is false s t h = absurd cc

each_repeats : (t : LocalType) (ts : List LocalType) → each_is t ts ≡ true → ts ≡ replicate (length ts) t
each_repeats t [] h = refl
each_repeats t (s ∷ ss) h =
    let p = and_parts (same_local s t) (each_is t ss) h in
    let e = same_local_is s t p.0 in
    let f = each_repeats t ss p.1 in cc

-- what the arguments are, where the type is given
all_are : (s : LocalType) (n : ℕ) (r : LocalType) (ts : List LocalType) (t : LocalType) → type_if_all s n r ts ≡ Some t → (ts ≡ replicate n s) × (r ≡ t)
all_are s n r ts t h =
    let g = given_is (length ts == n && each_is s ts) r t h in
    let p = and_parts (length ts == n) (each_is s ts) g.0 in
    let e : length ts ≡ n = eqb-true (length ts) n p.0 in
    (each_repeats s ts p.1 ∙ ap (λ k. replicate k s) e, g.1)

alike_are : (f : LocalType → LocalType) (ts : List LocalType) (t : LocalType) → alike_type f ts ≡ Some t → (s : LocalType) × (ts ≡ s ∷ s ∷ []) × (f s ≡ t)
alike_are f (s ∷ u ∷ []) t h =
    let g = given_is (same_local s u) (f s) t h in
    let e = same_local_is s u g.0 in (s, (let e' : u ≡ s = sym e in rw e' refl), g.1)
alike_are f ts t h = absurd cc

choice_are : (ts : List LocalType) (t : LocalType) → choice_type ts ≡ Some t → ts ≡ BoolType ∷ t ∷ t ∷ []
choice_are (c ∷ s ∷ u ∷ []) t h =
    let g = given_is (same_local c BoolType && same_local s u) s t h in
    let p = and_parts (same_local c BoolType) (same_local s u) g.0 in
    let d = same_local_is c BoolType p.0 in
    let e = same_local_is s u p.1 in
    let f = g.1 in cc
choice_are ts t h = absurd cc

moved : (b : Builtin) (ts us : List LocalType) (t s : LocalType) → ts ≡ us → s ≡ t → Takes b us s → Takes b ts t
moved b ts us t s e f h = rw (e, ← f) h

operator_takes : (b : Builtin) (ts : List LocalType) (t : LocalType) → operator_type b ts ≡ Some t → Takes b ts t
operator_takes op.Add ts t h = let a = all_are IntType 2 IntType ts t h in rw (a.0, ← a.1) takes_add
operator_takes op.Sub ts t h = let a = all_are IntType 2 IntType ts t h in rw (a.0, ← a.1) takes_sub
operator_takes op.Mul ts t h = let a = all_are IntType 2 IntType ts t h in rw (a.0, ← a.1) takes_mul
operator_takes op.Rise ts t h = let a = all_are IntType 3 IntType ts t h in rw (a.0, ← a.1) takes_rise
operator_takes op.Min ts t h = let a = alike_are (λ t. t) ts t h in moved op.Min ts (a.0 ∷ a.0 ∷ []) t a.0 a.1 a.2 (takes_min a.0)
operator_takes op.Max ts t h = let a = alike_are (λ t. t) ts t h in moved op.Max ts (a.0 ∷ a.0 ∷ []) t a.0 a.1 a.2 (takes_max a.0)
operator_takes op.Less ts t h = let a = alike_are (λ t. BoolType) ts t h in moved op.Less ts (a.0 ∷ a.0 ∷ []) t BoolType a.1 a.2 (takes_less a.0)
operator_takes op.Equal ts t h = let a = alike_are (λ t. BoolType) ts t h in moved op.Equal ts (a.0 ∷ a.0 ∷ []) t BoolType a.1 a.2 (takes_equal a.0)
operator_takes op.And ts t h = let a = all_are BoolType 2 BoolType ts t h in rw (a.0, ← a.1) takes_and
operator_takes op.Or ts t h = let a = all_are BoolType 2 BoolType ts t h in rw (a.0, ← a.1) takes_or
operator_takes op.Not ts t h = let a = all_are BoolType 1 BoolType ts t h in rw (a.0, ← a.1) takes_not
operator_takes op.Mux ts t h = let a = choice_are ts t h in rw a (takes_mux t)
operator_takes op.Pair (s ∷ u ∷ []) t h =
    let g = given_is (nat_le (leaves s + leaves u) 8) (PairType s u) t h in
    let e = g.1 in
    rw (← e) (takes_pair s u (leb-true (leaves s + leaves u) 8 g.0))
operator_takes op.Pair [] t h = absurd cc
operator_takes op.Pair (s ∷ []) t h = absurd cc
operator_takes op.Pair (s ∷ u ∷ v ∷ ts) t h = absurd cc
operator_takes op.Fst (PairType s u ∷ []) t h = let e : s ≡ t = cc in rw (← e) (takes_fst s u)
operator_takes op.Fst [] t h = absurd cc
operator_takes op.Fst (IntType ∷ ts) t h = absurd cc
operator_takes op.Fst (BoolType ∷ ts) t h = absurd cc
operator_takes op.Fst (PairType s u ∷ v ∷ ts) t h = absurd cc
operator_takes op.Snd (PairType s u ∷ []) t h = let e : u ≡ t = cc in rw (← e) (takes_snd s u)
operator_takes op.Snd [] t h = absurd cc
operator_takes op.Snd (IntType ∷ ts) t h = absurd cc
operator_takes op.Snd (BoolType ∷ ts) t h = absurd cc
operator_takes op.Snd (PairType s u ∷ v ∷ ts) t h = absurd cc
operator_takes op.MinHoodLoc ts t h = absurd cc
operator_takes op.MaxHoodLoc ts t h = absurd cc
operator_takes op.SumHood ts t h = absurd cc
operator_takes op.AnyHood ts t h = absurd cc
operator_takes op.AllHood ts t h = absurd cc

takes_operator : (b : Builtin) (ts : List LocalType) (t : LocalType) → Takes b ts t → operator_type b ts ≡ Some t
takes_operator _ _ _ takes_add = refl
takes_operator _ _ _ takes_sub = refl
takes_operator _ _ _ takes_mul = refl
takes_operator _ _ _ takes_rise = refl
takes_operator _ _ _ (takes_min t) = rw (same_local_refl t) refl
takes_operator _ _ _ (takes_max t) = rw (same_local_refl t) refl
takes_operator _ _ _ (takes_less t) = rw (same_local_refl t) refl
takes_operator _ _ _ (takes_equal t) = rw (same_local_refl t) refl
takes_operator _ _ _ takes_and = refl
takes_operator _ _ _ takes_or = refl
takes_operator _ _ _ takes_not = refl
takes_operator _ _ _ (takes_mux t) = rw (same_local_refl t) refl
takes_operator _ _ _ (takes_pair s t small) = let e = le-leb (leaves s + leaves t) 8 small in rw e refl
takes_operator _ _ _ (takes_fst s t) = refl
takes_operator _ _ _ (takes_snd s t) = refl

-- the hoods
fold_are : (ts : List ValueType) (t : LocalType) → field_and_local_type ts ≡ Some t → ts ≡ TypeField t ∷ TypeLocal t ∷ []
fold_are (TypeField s ∷ TypeLocal u ∷ []) t h =
    let g = given_is (same_local s u) s t h in
    let e = same_local_is s u g.0 in
    let f = g.1 in cc
fold_are ts t h = absurd cc

field_is : (r : LocalType) (ts : List ValueType) (t : LocalType) → field_alone_type r ts ≡ Some t → (ts ≡ TypeField r ∷ []) × (r ≡ t)
field_is r (TypeField s ∷ []) t h =
    let g = given_is (same_local s r) r t h in
    let e = same_local_is s r g.0 in (rw e refl, g.1)
field_is r ts t h = absurd cc

hood_folds : (b : Builtin) (ts : List ValueType) (t : LocalType) → hood_type b ts ≡ Some t → Folds b ts (TypeLocal t)
hood_folds op.MinHoodLoc ts t h = let a = fold_are ts t h in rw a (folds_min t)
hood_folds op.MaxHoodLoc ts t h = let a = fold_are ts t h in rw a (folds_max t)
hood_folds op.SumHood ts t h = let a = field_is IntType ts t h in rw (a.0, ← a.1) folds_sum
hood_folds op.AnyHood ts t h = let a = field_is BoolType ts t h in rw (a.0, ← a.1) folds_any
hood_folds op.AllHood ts t h = let a = field_is BoolType ts t h in rw (a.0, ← a.1) folds_all
hood_folds _ ts t h = absurd cc

folds_hood : (b : Builtin) (ts : List ValueType) (t : ValueType) → Folds b ts t → (s : LocalType) × (hood_type b ts ≡ Some s) × (t ≡ TypeLocal s)
folds_hood _ _ _ (folds_min t) = (t, rw (same_local_refl t) refl, refl)
folds_hood _ _ _ (folds_max t) = (t, rw (same_local_refl t) refl, refl)
folds_hood _ _ _ folds_sum = (IntType, refl, refl)
folds_hood _ _ _ folds_any = (BoolType, refl, refl)
folds_hood _ _ _ folds_all = (BoolType, refl, refl)

type_or_is : (k : TypeKind) (field : Bool) (o : Option LocalType) (t : ValueType) → type_or k field o ≡ TypeFound t → (s : LocalType) × (o ≡ Some s) × (t ≡ lifted field s)
type_or_is k field None t h = absurd cc
type_or_is k field (Some s) t h = (s, refl, cc)

type_or_fault : (k : TypeKind) (field : Bool) (o : Option LocalType) (l : TypeKind) → type_or k field o ≡ FaultFound l → (o ≡ None) × (l ≡ k)
type_or_fault k field None l h = (refl, cc)
type_or_fault k field (Some s) l h = absurd cc

judged_by : (hood : Bool) (b : Builtin) (ts : List ValueType) (t : ValueType) → judge_hood_or hood b ts ≡ TypeFound t → rule_by hood b ts t
judged_by true b ts t h = let r = type_or_is kind.Mismatch false (hood_type b ts) t h in rw r.2 (hood_folds b ts r.0 r.1)
judged_by false b ts t h =
    let r = type_or_is (why_not b ts) (has_field ts) (operator_type b (inners ts)) t h in
    record { local = r.0; takes = operator_takes b (inners ts) r.0 r.1; value = r.2 }

hood_is : (b : Builtin) (ts : List ValueType) (t : ValueType) (s : LocalType) → hood_type b ts ≡ Some s → t ≡ TypeLocal s → judge_hood_or true b ts ≡ TypeFound t
hood_is b ts t s e f = rw (e, f) refl

operator_is : (b : Builtin) (ts : List ValueType) (t : ValueType) (s : LocalType) → operator_type b (inners ts) ≡ Some s → t ≡ lifted (has_field ts) s → judge_hood_or false b ts ≡ TypeFound t
operator_is b ts t s e f = rw (e, f) refl

rule_judged_by : (hood : Bool) (b : Builtin) (ts : List ValueType) (t : ValueType) → rule_by hood b ts t → judge_hood_or hood b ts ≡ TypeFound t
rule_judged_by true b ts t h = let r = folds_hood b ts t h in hood_is b ts t r.0 r.1 r.2
rule_judged_by false b ts t h = operator_is b ts t h.local (takes_operator b (inners ts) h.local h.takes) h.value

-- a builtin has the type that is computed, and no other
pub judged_rule : (b : Builtin) (ts : List ValueType) (t : ValueType) → judge_builtin b ts ≡ TypeFound t → HasRule b ts t
judged_rule b ts t h = judged_by (is_hood b) b ts t h

pub rule_judged : (b : Builtin) (ts : List ValueType) (t : ValueType) → HasRule b ts t → judge_builtin b ts ≡ TypeFound t
rule_judged b ts t h = rule_judged_by (is_hood b) b ts t h

pub no_rule : (b : Builtin) (ts : List ValueType) (k : TypeKind) → judge_builtin b ts ≡ FaultFound k → HasNoRule b ts
no_rule b ts k h t r = let e = rule_judged b ts t r in cc

-- the kind of its fault
abbrev pub IsFaultOf : Builtin → List ValueType → TypeKind → Type 0
IsFaultOf b ts k = ((k ≡ kind.Mismatch) × (IsWidePair b ts → ⊥)) ⊎ ((k ≡ kind.Wide) × IsWidePair b ts)

plain : {P : Type 0} (field : Bool) (o : Option LocalType) (k : TypeKind) → type_or kind.Mismatch field o ≡ FaultFound k → ((k ≡ kind.Mismatch) × (⊥ → ⊥)) ⊎ P
plain field o k h = inl ((type_or_fault kind.Mismatch field o k h).1, λ x. x)

pub fault_kind : (b : Builtin) (ts : List ValueType) (k : TypeKind) → judge_builtin b ts ≡ FaultFound k → IsFaultOf b ts k
fault_kind op.Pair [] k h = plain false None k h
fault_kind op.Pair (s ∷ []) k h = plain (has_field (s ∷ [])) None k h
fault_kind op.Pair (s ∷ t ∷ u ∷ ts) k h = plain (has_field (s ∷ t ∷ u ∷ ts)) None k h
fault_kind op.Pair (s ∷ t ∷ []) k h =
    let f = type_or_fault kind.Wide (has_field (s ∷ t ∷ [])) (narrow_pair_type (inner s ∷ inner t ∷ [])) k h in
    inr (f.1, wide (nat_le (leaves (inner s) + leaves (inner t)) 8) refl f.0)
  where
    wide : (b : Bool) → nat_le (leaves (inner s) + leaves (inner t)) 8 ≡ b → type_if b (PairType (inner s) (inner t)) ≡ None → 8 < leaves (inner s) + leaves (inner t)
    wide true e f = absurd cc
    wide false e f = leb-false (leaves (inner s) + leaves (inner t)) 8 e
fault_kind op.Add ts k h = plain (has_field ts) (operator_type op.Add (inners ts)) k h
fault_kind op.Sub ts k h = plain (has_field ts) (operator_type op.Sub (inners ts)) k h
fault_kind op.Mul ts k h = plain (has_field ts) (operator_type op.Mul (inners ts)) k h
fault_kind op.Rise ts k h = plain (has_field ts) (operator_type op.Rise (inners ts)) k h
fault_kind op.Min ts k h = plain (has_field ts) (operator_type op.Min (inners ts)) k h
fault_kind op.Max ts k h = plain (has_field ts) (operator_type op.Max (inners ts)) k h
fault_kind op.Less ts k h = plain (has_field ts) (operator_type op.Less (inners ts)) k h
fault_kind op.Equal ts k h = plain (has_field ts) (operator_type op.Equal (inners ts)) k h
fault_kind op.And ts k h = plain (has_field ts) (operator_type op.And (inners ts)) k h
fault_kind op.Or ts k h = plain (has_field ts) (operator_type op.Or (inners ts)) k h
fault_kind op.Not ts k h = plain (has_field ts) (operator_type op.Not (inners ts)) k h
fault_kind op.Mux ts k h = plain (has_field ts) (operator_type op.Mux (inners ts)) k h
fault_kind op.Fst ts k h = plain (has_field ts) (operator_type op.Fst (inners ts)) k h
fault_kind op.Snd ts k h = plain (has_field ts) (operator_type op.Snd (inners ts)) k h
fault_kind op.MinHoodLoc ts k h = plain false (hood_type op.MinHoodLoc ts) k h
fault_kind op.MaxHoodLoc ts k h = plain false (hood_type op.MaxHoodLoc ts) k h
fault_kind op.SumHood ts k h = plain false (hood_type op.SumHood ts) k h
fault_kind op.AnyHood ts k h = plain false (hood_type op.AnyHood ts) k h
fault_kind op.AllHood ts k h = plain false (hood_type op.AllHood ts) k h

by_judgement : (b : Builtin) (ts : List ValueType) (l : TypeKind) → HasNoRule b ts → ((k : TypeKind) → IsFaultOf b ts k → k ≡ l) → (j : JudgedType) → judge_builtin b ts ≡ j → j ≡ FaultFound l
by_judgement b ts l none f (TypeFound t) e = absurd (none t (judged_rule b ts t e))
by_judgement b ts l none f (FaultFound k) e = ap FaultFound (f k (fault_kind b ts k e))

pub mismatch_judged : (b : Builtin) (ts : List ValueType) → HasNoRule b ts → (IsWidePair b ts → ⊥) → judge_builtin b ts ≡ FaultFound kind.Mismatch
mismatch_judged b ts none narrow = by_judgement b ts kind.Mismatch none (λ k f. elim f [ inl m ↦ m.0 | inr w ↦ absurd (narrow w.1) ]) (judge_builtin b ts) refl

wide_not : (s t : ValueType) → 8 < leaves (inner s) + leaves (inner t) → (b : Bool) → nat_le (leaves (inner s) + leaves (inner t)) 8 ≡ b → b ≡ false
wide_not s t w true e = let l = leb-true (leaves (inner s) + leaves (inner t)) 8 e in absurd (omega arith)
wide_not s t w false e = refl

pub wide_judged : (b : Builtin) (ts : List ValueType) → IsWidePair b ts → judge_builtin b ts ≡ FaultFound kind.Wide
wide_judged op.Pair (s ∷ t ∷ []) w = let e = wide_not s t w (nat_le (leaves (inner s) + leaves (inner t)) 8) refl in rw e refl
wide_judged _ _ w = absurd w
