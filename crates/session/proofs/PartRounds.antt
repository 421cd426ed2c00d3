-- The rounds of parts from a position on.
use Rattle.std.proofs.Common.{◌≡◌, ℕ, ◌+◌, ◌≤◌, ◌<◌, List, [], ◌∷◌, ◌++◌, refl, arith, Bool, true, false, nat_le, if◌then◌else◌}
use Rattle.std.proofs.lemmas.Bool.{leb-true, le-leb}
use Rattle.firing_core.specs.declared.entries.Part.{Part}
use Rattle.session.specs.Since.{rounds_from}

pub rounds_both : (place : ℕ) (xs ys : List Part) → rounds_from place (xs ++ ys) ≡ rounds_from place xs + rounds_from place ys
rounds_both place [] ys = omega arith
rounds_both place (x ∷ xs) ys = by_test (nat_le place x.from) (rounds_both place xs ys)
  where
    by_test : (b : Bool) → rounds_from place (xs ++ ys) ≡ rounds_from place xs + rounds_from place ys
        → (if b then x.rounds + rounds_from place (xs ++ ys) else rounds_from place (xs ++ ys)) ≡ (if b then x.rounds + rounds_from place xs else rounds_from place xs) + rounds_from place ys
    by_test true e = omega (arith, e)
    by_test false e = e

-- parts that begin at a position or before it
abbrev pub AllBegin : List Part → ℕ → Type 0
AllBegin [] n = Unit {0}
AllBegin (x ∷ xs) n = (x.from ≤ n) × AllBegin xs n

pub begin_later : (xs : List Part) (n m : ℕ) → AllBegin xs n → n ≤ m → AllBegin xs m
begin_later [] n m a l = tt
begin_later (x ∷ xs) n m a l = (let f = a.0 in omega (arith, f, l), begin_later xs n m a.1 l)

pub begin_both : (xs ys : List Part) (n : ℕ) → AllBegin xs n → AllBegin ys n → AllBegin (xs ++ ys) n
begin_both [] ys n a b = b
begin_both (x ∷ xs) ys n a b = (a.0, begin_both xs ys n a.1 b)

-- none begins behind a position
pub rounds_none : (place n : ℕ) (xs : List Part) → AllBegin xs n → n < place → rounds_from place xs ≡ 0
rounds_none place n [] a l = refl
rounds_none place n (x ∷ xs) a l = by_test (nat_le place x.from) refl (rounds_none place n xs a.1 l)
  where
    by_test : (b : Bool) → nat_le place x.from ≡ b → rounds_from place xs ≡ 0 → (if b then x.rounds + rounds_from place xs else rounds_from place xs) ≡ 0
    by_test true t ih = let f = leb-true place x.from t in let g = a.0 in absurd (omega (arith, f, g, l))
    by_test false t ih = ih

-- a part that begins at a position or behind it
pub rounds_one : (place : ℕ) (x : Part) → place ≤ x.from → rounds_from place (x ∷ []) ≡ x.rounds
rounds_one place x l = let t = le-leb place x.from l in rw t (omega arith)
