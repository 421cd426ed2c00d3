-- A value in a known bound is the one that is left.
use Rattle.std.proofs.Common.{◌≡◌, refl, ap, arith, Bool, true, false}
use Rattle.fc_values.specs.Values.{LocalValue, IntValue, BoolValue, PairValue}
use Rattle.value_bounds.specs.BoundValues.{BoundValue, Between, Truths, Both, Unbounded, Lies, is_known, value_left}
use Rattle.value_bounds.proofs.Values.{both_parts, nat_same}

truth_left : (a b x : Bool) → is_known (Truths a b) ≡ true → Lies (Truths a b) (BoolValue x) → x ≡ a
truth_left true true x k h = h.0 refl
truth_left true false x k h = absurd cc
truth_left false true x k h = absurd cc
truth_left false false true k h = let e = h.1 refl in absurd cc
truth_left false false false k h = refl

pub left_is : (b : BoundValue) (v : LocalValue) → is_known b ≡ true → Lies b v → v ≡ value_left b
left_is (Between x y) (IntValue n) k h = let e = nat_same x y k in let same : n ≡ x = omega (arith, e, h.0, h.1) in
    ap IntValue same
left_is (Between x y) (BoolValue c) k h = absurd h
left_is (Between x y) (PairValue v w) k h = absurd h
left_is (Truths x y) (IntValue n) k h = absurd h
left_is (Truths x y) (BoolValue c) k h = ap BoolValue (truth_left x y c k h)
left_is (Truths x y) (PairValue v w) k h = absurd h
left_is (Both a b) (IntValue n) k h = absurd h
left_is (Both a b) (BoolValue c) k h = absurd h
left_is (Both a b) (PairValue v w) k h =
    let q = both_parts (is_known a) (is_known b) k in
    let e = left_is a v q.0 h.0 in
    let e' = left_is b w q.1 h.1 in
    rw (e, e') refl
left_is Unbounded v k h = absurd cc
