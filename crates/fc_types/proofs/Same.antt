-- Whether two types are the same.
use Rattle.std.proofs.Common.{◌≡◌, refl, ap, true, false, List, [], ◌∷◌}
use Rattle.std.proofs.lemmas.Bool.{and_parts}
use Rattle.fc_values.specs.Types.{LocalType, IntType, BoolType, PairType, ValueType, TypeLocal, TypeField}
use Rattle.fc_types.specs.Judging.{same_local, same_type, same_types}

pub same_local_refl : (t : LocalType) → same_local t t ≡ true
same_local_refl IntType = refl
same_local_refl BoolType = refl
same_local_refl (PairType s t) = rw (same_local_refl s, same_local_refl t) refl

pub same_local_is : (s t : LocalType) → same_local s t ≡ true → s ≡ t
same_local_is IntType IntType h = refl
same_local_is BoolType BoolType h = refl
same_local_is (PairType s t) (PairType u v) h =
    let p = and_parts (same_local s u) (same_local t v) h in
    let e = same_local_is s u p.0 in
    let f = same_local_is t v p.1 in cc
same_local_is s t h = absurd cc

pub same_type_refl : (t : ValueType) → same_type t t ≡ true
same_type_refl (TypeLocal t) = same_local_refl t
same_type_refl (TypeField t) = same_local_refl t

pub same_type_is : (s t : ValueType) → same_type s t ≡ true → s ≡ t
same_type_is (TypeLocal s) (TypeLocal t) h = ap TypeLocal (same_local_is s t h)
same_type_is (TypeField s) (TypeField t) h = ap TypeField (same_local_is s t h)
same_type_is s t h = absurd cc

pub same_types_refl : (ts : List ValueType) → same_types ts ts ≡ true
same_types_refl [] = refl
same_types_refl (t ∷ ts) = rw (same_type_refl t, same_types_refl ts) refl

pub same_types_is : (ss ts : List ValueType) → same_types ss ts ≡ true → ss ≡ ts
same_types_is [] [] h = refl
same_types_is (s ∷ ss) (t ∷ ts) h =
    let p = and_parts (same_type s t) (same_types ss ts) h in
    let e = same_type_is s t p.0 in
    let f = same_types_is ss ts p.1 in cc
same_types_is ss ts h = absurd cc

-- types that are not found the same are not the same
pub differ : (s t : LocalType) → same_local s t ≡ false → s ≡ t → ⊥
differ s t h e = let r = same_local_refl t in let h' : same_local t t ≡ false = rw e at h in cc

pub types_differ : (s t : ValueType) → same_type s t ≡ false → s ≡ t → ⊥
types_differ s t h e = let r = same_type_refl t in let h' : same_type t t ≡ false = rw e at h in cc

pub rows_differ : (ss ts : List ValueType) → same_types ss ts ≡ false → ss ≡ ts → ⊥
rows_differ ss ts h e = let r = same_types_refl ts in let h' : same_types ts ts ≡ false = rw e at h in cc
