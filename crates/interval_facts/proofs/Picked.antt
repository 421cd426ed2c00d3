-- The ranges at the places of arguments.
use Rattle.std.proofs.Common.{◌≡◌, ℕ, zero, suc, ◌<◌, List, [], ◌∷◌, length, get_or, refl, sym, ◌∙◌, ap, arith}
use Rattle.fc_values.specs.declared.builtins.Builtin.{Builtin}
use Rattle.fc_values.specs.declared.builtins.Builtin.TheVariants as op
use Rattle.interval_facts.specs.declared.intervals.Range.{Range}
use Rattle.interval_facts.specs.Ranges.{RangeValue, BoolRange, range_value}
use Rattle.fc_values.specs.BuiltinTypes.{arity}
use Rattle.interval_facts.specs.Picks.{ranges_in, picked, AreThere, IsComponent, IsOfTwo, IsOfThree}

pub there_nth : (n : ℕ) (ks : List ℕ) (i : ℕ) → AreThere n ks → i < length ks → get_or ks i 0 < n
there_nth n [] i h l = absurd (omega (arith, l))
there_nth n (k ∷ ks) zero h l = h.0
there_nth n (k ∷ ks) (suc i) h l = there_nth n ks i h.1 (omega (arith, l))

pub range_read : (rs : List Range) (k : ℕ) (r : Range) → r ≡ get_or rs k r → k < length rs → range_value r ≡ get_or (ranges_in rs) k BoolRange
range_read [] k r e l = absurd (omega (arith, l))
range_read (x ∷ rs) zero r e l = ap range_value e
range_read (x ∷ rs) (suc k) r e l = range_read rs k r e (omega (arith, l))

pub picked_nth : (rs : List Range) (ks : List ℕ) (i : ℕ) → i < length ks → get_or (picked rs ks) i BoolRange ≡ get_or (ranges_in rs) (get_or ks i 0) BoolRange
picked_nth rs [] i l = absurd (omega (arith, l))
picked_nth rs (k ∷ ks) zero l = refl
picked_nth rs (k ∷ ks) (suc i) l = picked_nth rs ks i (omega (arith, l))

arity_one : (o : Builtin) → IsComponent o → arity o ≡ 1
arity_one op.Fst h = refl
arity_one op.Snd h = refl
arity_one o h = absurd h

arity_two : (o : Builtin) → IsOfTwo o → arity o ≡ 2
arity_two op.Add h = refl
arity_two op.Sub h = refl
arity_two op.Mul h = refl
arity_two op.Min h = refl
arity_two op.Max h = refl
arity_two op.Pair h = refl
arity_two op.MinHoodLoc h = refl
arity_two op.MaxHoodLoc h = refl
arity_two o h = absurd h

arity_three : (o : Builtin) → IsOfThree o → arity o ≡ 3
arity_three op.Rise h = refl
arity_three op.Mux h = refl
arity_three o h = absurd h

picked_one : (rs : List Range) (ks : List ℕ) → length ks ≡ 1 → picked rs ks ≡ get_or (picked rs ks) 0 BoolRange ∷ []
picked_one rs [] e = absurd (omega (arith, e))
picked_one rs (a ∷ []) e = refl
picked_one rs (a ∷ b ∷ ks) e = absurd (omega (arith, e))

picked_two : (rs : List Range) (ks : List ℕ) → length ks ≡ 2 → picked rs ks ≡ get_or (picked rs ks) 0 BoolRange ∷ get_or (picked rs ks) 1 BoolRange ∷ []
picked_two rs [] e = absurd (omega (arith, e))
picked_two rs (a ∷ []) e = absurd (omega (arith, e))
picked_two rs (a ∷ b ∷ []) e = refl
picked_two rs (a ∷ b ∷ c ∷ ks) e = absurd (omega (arith, e))

picked_three : (rs : List Range) (ks : List ℕ) → length ks ≡ 3 →
    picked rs ks ≡ get_or (picked rs ks) 0 BoolRange ∷ get_or (picked rs ks) 1 BoolRange ∷ get_or (picked rs ks) 2 BoolRange ∷ []
picked_three rs [] e = absurd (omega (arith, e))
picked_three rs (a ∷ []) e = absurd (omega (arith, e))
picked_three rs (a ∷ b ∷ []) e = absurd (omega (arith, e))
picked_three rs (a ∷ b ∷ c ∷ []) e = refl
picked_three rs (a ∷ b ∷ c ∷ d ∷ ks) e = absurd (omega (arith, e))

pub as_one : (o : Builtin) → IsComponent o → (rs : List Range) (ks : List ℕ) → length ks ≡ arity o → (a : RangeValue) → a ≡ get_or (picked rs ks) 0 BoolRange → a ∷ [] ≡ picked rs ks
as_one o k rs ks e a h = rw h (sym (picked_one rs ks (e ∙ arity_one o k)))

pub as_two : (o : Builtin) → IsOfTwo o → (rs : List Range) (ks : List ℕ) → length ks ≡ arity o → (a b : RangeValue) → a ≡ get_or (picked rs ks) 0 BoolRange → b ≡ get_or (picked rs ks) 1 BoolRange → a ∷ b ∷ [] ≡ picked rs ks
as_two o k rs ks e a b h i = rw (h, i) (sym (picked_two rs ks (e ∙ arity_two o k)))

pub as_three : (o : Builtin) → IsOfThree o → (rs : List Range) (ks : List ℕ) → length ks ≡ arity o → (a b c : RangeValue) → a ≡ get_or (picked rs ks) 0 BoolRange → b ≡ get_or (picked rs ks) 1 BoolRange →
    c ≡ get_or (picked rs ks) 2 BoolRange → a ∷ b ∷ c ∷ [] ≡ picked rs ks
as_three o k rs ks e a b c h i j = rw (h, i, j) (sym (picked_three rs ks (e ∙ arity_three o k)))
