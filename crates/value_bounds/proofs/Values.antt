-- Crates above cite this module: bounds of local values, either, orders, the lesser and the greater of two.
use Rattle.std.proofs.Common.{◌≡◌, ℕ, refl, ap, arith, Bool, true, false, ◌&&◌, ◌||◌}
use Rattle.std.specs.Prelude.{nat_eq}
use Rattle.fc_values.specs.Types.{LocalType, IntType, BoolType, PairType}
use Rattle.fc_values.specs.Values.{LocalValue, IntValue, BoolValue, PairValue, Fits}
use Rattle.value_bounds.specs.BoundValues.{BoundValue, Between, Truths, Both, Unbounded, Lies, exactly, anything, is_known, either}

-- ---- exactly, anything, known

pub lies_exactly : (v : LocalValue) → Lies (exactly v) v
lies_exactly (IntValue n) = (omega arith, omega arith)
lies_exactly (BoolValue b) = (λ e. e, λ e. e)
lies_exactly (PairValue v w) = (lies_exactly v, lies_exactly w)

pub lies_anything : (ceiling : ℕ) (t : LocalType) (v : LocalValue) → Fits ceiling t v → Lies (anything ceiling t) v
lies_anything m IntType (IntValue n) h = (omega arith, h)
lies_anything m IntType (BoolValue b) h = absurd h
lies_anything m IntType (PairValue v w) h = absurd h
lies_anything m BoolType (IntValue n) h = absurd h
lies_anything m BoolType (BoolValue b) h = (λ e. absurd cc, λ e. refl)
lies_anything m BoolType (PairValue v w) h = absurd h
lies_anything m (PairType s t) (IntValue n) h = absurd h
lies_anything m (PairType s t) (BoolValue b) h = absurd h
lies_anything m (PairType s t) (PairValue v w) h = (lies_anything m s v h.0, lies_anything m t w h.1)

pub both_parts : (a b : Bool) → (a && b) ≡ true → (a ≡ true) × (b ≡ true)
both_parts true b h = (refl, h)
both_parts false b h = absurd cc

pub nat_same : (a b : ℕ) → nat_eq a b ≡ true → a ≡ b
nat_same a b h = grind (arith, h)

pub itself : (a : ℕ) → nat_eq a a ≡ true
itself a = grind arith

pub flips : (a b : ℕ) → nat_eq a b ≡ false → nat_eq b a ≡ false
flips a b h = by_test (nat_eq b a) refl
  where
    by_test : (c : Bool) → nat_eq b a ≡ c → nat_eq b a ≡ false
    by_test false q = q
    by_test true q = let same = nat_same b a q in let e : nat_eq a b ≡ true = rw (← same) (itself b) in absurd cc

-- two values in a known bound are the same
pub known_one : (b : BoundValue) (v w : LocalValue) → is_known b ≡ true → Lies b v → Lies b w → v ≡ w
known_one (Between x y) (IntValue m) (IntValue n) k h g = let e = nat_same x y k in let same : m ≡ n = omega (arith, e, h.0, h.1, g.0, g.1) in ap IntValue same
known_one (Between x y) (BoolValue b) w k h g = absurd h
known_one (Between x y) (PairValue v v') w k h g = absurd h
known_one (Between x y) (IntValue m) (BoolValue b) k h g = absurd g
known_one (Between x y) (IntValue m) (PairValue w w') k h g = absurd g
known_one (Truths x y) (IntValue m) w k h g = absurd h
known_one (Truths x y) (PairValue v v') w k h g = absurd h
known_one (Truths x y) (BoolValue b) (IntValue n) k h g = absurd g
known_one (Truths x y) (BoolValue b) (PairValue w w') k h g = absurd g
known_one (Truths true true) (BoolValue b) (BoolValue c) k h g = let p = h.0 refl in let q = g.0 refl in rw (p, q) refl
known_one (Truths true false) (BoolValue b) (BoolValue c) k h g = absurd cc
known_one (Truths false true) (BoolValue b) (BoolValue c) k h g = absurd cc
known_one (Truths false false) (BoolValue true) c k h g = let p = h.1 refl in absurd cc
known_one (Truths false false) (BoolValue false) (BoolValue true) k h g = let p = g.1 refl in absurd cc
known_one (Truths false false) (BoolValue false) (BoolValue false) k h g = refl
known_one (Both a b) (IntValue m) w k h g = absurd h
known_one (Both a b) (BoolValue x) w k h g = absurd h
known_one (Both a b) (PairValue v v') (IntValue n) k h g = absurd g
known_one (Both a b) (PairValue v v') (BoolValue x) k h g = absurd g
known_one (Both a b) (PairValue v v') (PairValue w w') k h g =
    let q = both_parts (is_known a) (is_known b) k in
    let e = known_one a v w q.0 h.0 g.0 in
    let e' = known_one b v' w' q.1 h.1 g.1 in
    rw (e, e') refl
known_one Unbounded v w k h g = absurd cc

-- ---- either

-- truth values as intervals
pub and_low : (a c x : Bool) → (a ≡ true → x ≡ true) → (a && c) ≡ true → x ≡ true
and_low true c x h e = h refl
and_low false c x h e = absurd cc

pub or_high : (b d x : Bool) → (x ≡ true → b ≡ true) → x ≡ true → (b || d) ≡ true
or_high b d x h e = let q = h e in rw q refl

pub and_low' : (a c x : Bool) → (c ≡ true → x ≡ true) → (a && c) ≡ true → x ≡ true
and_low' true c x h e = h e
and_low' false c x h e = absurd cc

pub or_high' : (b d x : Bool) → (x ≡ true → d ≡ true) → x ≡ true → (b || d) ≡ true
or_high' true d x h e = refl
or_high' false d x h e = h e

pub either_left : (a b : BoundValue) (v : LocalValue) → Lies a v → Lies (either a b) v
either_left (Between x y) (Between x' y') (IntValue n) h = (omega (arith, h.0), omega (arith, h.1))
either_left (Between x y) b (BoolValue n) h = absurd h
either_left (Between x y) b (PairValue n w) h = absurd h
either_left (Between x y) (Truths x' y') (IntValue n) h = tt
either_left (Between x y) (Both a' b') (IntValue n) h = tt
either_left (Between x y) Unbounded (IntValue n) h = tt
either_left (Truths x y) b (IntValue n) h = absurd h
either_left (Truths x y) b (PairValue n w) h = absurd h
either_left (Truths x y) (Between x' y') (BoolValue c) h = tt
either_left (Truths x y) (Truths x' y') (BoolValue c) h = (and_low x x' c h.0, or_high y y' c h.1)
either_left (Truths x y) (Both a' b') (BoolValue c) h = tt
either_left (Truths x y) Unbounded (BoolValue c) h = tt
either_left (Both a b) c (IntValue n) h = absurd h
either_left (Both a b) c (BoolValue n) h = absurd h
either_left (Both a b) (Between x' y') (PairValue v w) h = tt
either_left (Both a b) (Truths x' y') (PairValue v w) h = tt
either_left (Both a b) (Both c d) (PairValue v w) h = (either_left a c v h.0, either_left b d w h.1)
either_left (Both a b) Unbounded (PairValue v w) h = tt
either_left Unbounded b v h = tt

pub either_right : (a b : BoundValue) (v : LocalValue) → Lies b v → Lies (either a b) v
either_right (Between x' y') (Between x y) (IntValue n) h = (omega (arith, h.0), omega (arith, h.1))
either_right a (Between x y) (BoolValue n) h = absurd h
either_right a (Between x y) (PairValue n w) h = absurd h
either_right (Truths x' y') (Between x y) (IntValue n) h = tt
either_right (Both a' b') (Between x y) (IntValue n) h = tt
either_right Unbounded (Between x y) (IntValue n) h = tt
either_right a (Truths x y) (IntValue n) h = absurd h
either_right a (Truths x y) (PairValue n w) h = absurd h
either_right (Between x' y') (Truths x y) (BoolValue c) h = tt
either_right (Truths x' y') (Truths x y) (BoolValue c) h = (and_low' x' x c h.0, or_high' y' y c h.1)
either_right (Both a' b') (Truths x y) (BoolValue c) h = tt
either_right Unbounded (Truths x y) (BoolValue c) h = tt
either_right c (Both a b) (IntValue n) h = absurd h
either_right c (Both a b) (BoolValue n) h = absurd h
either_right (Between x' y') (Both a b) (PairValue v w) h = tt
either_right (Truths x' y') (Both a b) (PairValue v w) h = tt
either_right (Both c d) (Both a b) (PairValue v w) h = (either_right c a v h.0, either_right d b w h.1)
either_right Unbounded (Both a b) (PairValue v w) h = tt
either_right (Between x y) Unbounded v h = tt
either_right (Truths x y) Unbounded v h = tt
either_right (Both x y) Unbounded v h = tt
either_right Unbounded Unbounded v h = tt
