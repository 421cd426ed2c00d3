-- A bound in which one value is left is the bound of this value, and has its text.
use Rattle.std.proofs.Common.{◌≡◌, true, false, ◌++◌, codes, refl, ap, ap₂, ◌∙◌, arith}
use Rattle.fc_values.specs.Values.{LocalValue, IntValue, BoolValue, PairValue}
use Rattle.value_bounds.specs.BoundValues.{BoundValue, Between, Truths, Both, Unbounded, Lies, exactly, is_known}
use Rattle.value_bounds.proofs.Values.{both_parts, itself, nat_same}
use Rattle.bound_texts.specs.BoundTexts.{bound_text}
use Rattle.bound_texts.specs.KnownBounds.{ExactHasTextOfValue, KnownHasTextOfValue}

pub exact_text : ExactHasTextOfValue
exact_text (IntValue n) = rw (itself n) refl
exact_text (BoolValue true) = refl
exact_text (BoolValue false) = refl
exact_text (PairValue a b) =
    ap₂ (λ x y. codes "(" ++ x ++ codes "," ++ y ++ codes ")") (exact_text a) (exact_text b)

known_is_exact : (b : BoundValue) (v : LocalValue) → is_known b ≡ true → Lies b v → b ≡ exactly v
known_is_exact (Between x y) (IntValue n) k h =
    let e = nat_same x y k in
    let least : x ≡ n = omega (arith, e, h.0, h.1) in
    let greatest : y ≡ n = omega (arith, e, h.0, h.1) in
    ap₂ Between least greatest
known_is_exact (Between x y) (BoolValue b) k h = absurd h
known_is_exact (Between x y) (PairValue v w) k h = absurd h
known_is_exact (Truths x y) (IntValue n) k h = absurd h
known_is_exact (Truths x y) (PairValue v w) k h = absurd h
known_is_exact (Truths true true) (BoolValue b) k h = let p = h.0 refl in rw p refl
known_is_exact (Truths true false) (BoolValue b) k h = absurd cc
known_is_exact (Truths false true) (BoolValue b) k h = absurd cc
known_is_exact (Truths false false) (BoolValue true) k h = let p = h.1 refl in absurd cc
known_is_exact (Truths false false) (BoolValue false) k h = refl
known_is_exact (Both a b) (IntValue n) k h = absurd h
known_is_exact (Both a b) (BoolValue x) k h = absurd h
known_is_exact (Both a b) (PairValue v w) k h =
    let parts = both_parts (is_known a) (is_known b) k in
    ap₂ Both (known_is_exact a v parts.0 h.0) (known_is_exact b w parts.1 h.1)
known_is_exact Unbounded v k h = absurd cc

pub known_text : KnownHasTextOfValue
known_text b v k h = ap bound_text (known_is_exact b v k h) ∙ exact_text v
