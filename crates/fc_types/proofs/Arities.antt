-- Builtins on a number of arguments that is not theirs, and on arguments that are all of one type.
use Rattle.std.proofs.Common.{◌≡◌, refl, sym, ap, ◌∙◌, ℕ, suc, ◌==◌, Bool, true, false, ◌&&◌, List, [], ◌∷◌, length, map, None}
use Rattle.std.proofs.lemmas.Bool.{eq-eqb, ne_eqb, and_right}
use Rattle.fc_values.specs.declared.builtins.Builtin.TheVariants as op
use Rattle.fc_values.specs.declared.types.Ty.{Ty}
use Rattle.fc_values.specs.Types.{LocalType, IntType, BoolType, PairType, type_of}
use Rattle.fc_values.specs.BuiltinTypes.{inner, inners, lifted}
use Rattle.fc_types.specs.declared.faults.TypeKind.TheVariants as kind
use Rattle.fc_types.specs.Judging.{TypeFound, FaultFound, each_is, type_if_all, alike_type, choice_type, part_type, type_or, judge_builtin}

no_part : (f : LocalType → LocalType → LocalType) (s t : LocalType) (ts : List LocalType) → part_type f (s ∷ t ∷ ts) ≡ None
no_part f IntType t ts = refl
no_part f BoolType t ts = refl
no_part f (PairType r s) t ts = refl

-- not one argument, not two, not three
pub not_one : (f : LocalType → LocalType → LocalType) (b : Bool) (ts : List Ty) → (length ts ≡ 1 → ⊥) → type_or kind.Mismatch b (part_type f (inners (map type_of ts))) ≡ FaultFound kind.Mismatch
not_one f b [] h = refl
not_one f b (t ∷ []) h = absurd (h refl)
not_one f b (t ∷ u ∷ ts) h = ap (type_or kind.Mismatch b) (no_part f (inner (type_of t)) (inner (type_of u)) (inners (map type_of ts)))

pub not_two : (f : LocalType → LocalType) (b : Bool) (ts : List Ty) → (length ts ≡ 2 → ⊥) → type_or kind.Mismatch b (alike_type f (inners (map type_of ts))) ≡ FaultFound kind.Mismatch
not_two f b [] h = refl
not_two f b (t ∷ []) h = refl
not_two f b (t ∷ u ∷ []) h = absurd (h refl)
not_two f b (t ∷ u ∷ v ∷ ts) h = refl

pub no_pair : (ts : List Ty) → (length ts ≡ 2 → ⊥) → judge_builtin op.Pair (map type_of ts) ≡ FaultFound kind.Mismatch
no_pair [] h = refl
no_pair (t ∷ []) h = refl
no_pair (t ∷ u ∷ []) h = absurd (h refl)
no_pair (t ∷ u ∷ v ∷ ts) h = refl

pub not_three : (b : Bool) (ts : List Ty) → (length ts ≡ 3 → ⊥) → type_or kind.Mismatch b (choice_type (inners (map type_of ts))) ≡ FaultFound kind.Mismatch
not_three b [] h = refl
not_three b (t ∷ []) h = refl
not_three b (t ∷ u ∷ []) h = refl
not_three b (t ∷ u ∷ v ∷ []) h = absurd (h refl)
not_three b (t ∷ u ∷ v ∷ w ∷ ts) h = refl

-- so many arguments, all of one type
inners_long : (ts : List Ty) → length (inners (map type_of ts)) ≡ length ts
inners_long [] = refl
inners_long (t ∷ ts) = ap suc (inners_long ts)

module _ (s : LocalType) (n : ℕ) (r : LocalType) (b : Bool) (ts : List Ty) where
  pub all_given : length ts ≡ n → each_is s (inners (map type_of ts)) ≡ true → type_or kind.Mismatch b (type_if_all s n r (inners (map type_of ts))) ≡ TypeFound (lifted b r)
  all_given l e = let c : (length (inners (map type_of ts)) == n) ≡ true = eq-eqb (length (inners (map type_of ts))) n (inners_long ts ∙ l) in rw (c, e) refl

  pub not_counted : (length ts ≡ n → ⊥) → type_or kind.Mismatch b (type_if_all s n r (inners (map type_of ts))) ≡ FaultFound kind.Mismatch
  not_counted h = let c : (length (inners (map type_of ts)) == n) ≡ false = ne_eqb (length (inners (map type_of ts))) n (λ l. h (sym (inners_long ts) ∙ l)) in rw c refl

  pub not_each : each_is s (inners (map type_of ts)) ≡ false → type_or kind.Mismatch b (type_if_all s n r (inners (map type_of ts))) ≡ FaultFound kind.Mismatch
  not_each e = let c : ((length (inners (map type_of ts)) == n) && each_is s (inners (map type_of ts))) ≡ false = and_right (length (inners (map type_of ts)) == n) (each_is s (inners (map type_of ts))) e in rw c refl
