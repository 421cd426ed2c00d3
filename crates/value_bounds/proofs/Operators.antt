-- Operators on local values: arguments in bounds give a value in the bound.
use Rattle.std.proofs.Common.{◌≡◌, ℕ, zero, suc, ◌≤◌, ◌*◌, List, [], ◌∷◌, refl, arith, Bool, true, false, not, ◌&&◌, ◌||◌, min, Option, Some, None, if◌then◌else◌}
use Rattle.fc_values.specs.declared.builtins.Builtin.{Builtin}
use Rattle.fc_values.specs.declared.builtins.Builtin.TheVariants as op
use Rattle.std.specs.declared.cmp.Ordering.{Ordering}
use Rattle.std.specs.declared.cmp.Ordering.TheVariants as ord
use Rattle.fc_values.specs.Values.{LocalValue, IntValue, BoolValue, PairValue, compare_values, is_equal}
use Rattle.fc_values.specs.Builtins.{of_two_integers, of_three_integers, of_truth, of_two_truths, of_two, of_pair, of_choice, local_value}
use Rattle.value_bounds.specs.BoundValues.{BoundValue, Between, Truths, Both, Unbounded, Lies}
use Rattle.value_bounds.specs.BoundBuiltins.{of_two_ranges, of_three_ranges, of_truths, of_four_truths, of_two_bounds, of_both, chosen, of_chosen, local_bound}
use Rattle.value_bounds.proofs.Values.{either_left, either_right}
use Rattle.value_bounds.proofs.Compare.{lies_lesser, lies_greater, less_may, must_be_less, equal_may, must_be_equal}

abbrev pub AllLie : List BoundValue → List LocalValue → Type 0
AllLie [] [] = Unit {0}
AllLie [] (x ∷ xs) = ⊥
AllLie (b ∷ bs) [] = ⊥
AllLie (b ∷ bs) (x ∷ xs) = Lies b x × AllLie bs xs

-- a value that is there lies in a bound
abbrev pub MaybeLies : BoundValue → Option LocalValue → Type 0
MaybeLies b None = Unit {0}
MaybeLies b (Some v) = Lies b v

module _ (f : ℕ → ℕ → LocalValue) (g : ℕ → ℕ → ℕ → ℕ → BoundValue) (sound : (a b c d m n : ℕ) → a ≤ m → m ≤ b → c ≤ n → n ≤ d → Lies (g a b c d) (f m n)) where
  two_ranges : (p q : BoundValue) (m n : ℕ) → Lies p (IntValue m) → Lies q (IntValue n) → Lies (of_two_ranges g (p ∷ q ∷ [])) (f m n)
  two_ranges (Between a b) (Between c d) m n h i = sound a b c d m n h.0 h.1 i.0 i.1
  two_ranges (Between a b) (Truths c d) m n h i = absurd i
  two_ranges (Between a b) (Both c d) m n h i = absurd i
  two_ranges (Between a b) Unbounded m n h i = tt
  two_ranges (Truths a b) q m n h i = absurd h
  two_ranges (Both a b) q m n h i = absurd h
  two_ranges Unbounded q m n h i = tt

  two_integers : (bs : List BoundValue) (xs : List LocalValue) → AllLie bs xs → MaybeLies (of_two_ranges g bs) (of_two_integers f xs)
  two_integers bs (IntValue m ∷ IntValue n ∷ []) h = by_bounds bs h
    where
      by_bounds : (bs : List BoundValue) → AllLie bs (IntValue m ∷ IntValue n ∷ []) → Lies (of_two_ranges g bs) (f m n)
      by_bounds (p ∷ q ∷ []) h = two_ranges p q m n h.0 h.1.0
      by_bounds bs h = absurd assumption
  two_integers bs xs h = tt

module _ (f : ℕ → ℕ → ℕ → LocalValue) (g : ℕ → ℕ → ℕ → ℕ → ℕ → ℕ → BoundValue) (sound : (a b c d e i m n k : ℕ) → a ≤ m → m ≤ b → c ≤ n → n ≤ d → e ≤ k → k ≤ i → Lies (g a b c d e i) (f m n k)) where
  three_ranges : (p q r : BoundValue) (m n k : ℕ) → Lies p (IntValue m) → Lies q (IntValue n) → Lies r (IntValue k) → Lies (of_three_ranges g (p ∷ q ∷ r ∷ [])) (f m n k)
  three_ranges (Between a b) (Between c d) (Between e i) m n k h j l = sound a b c d e i m n k h.0 h.1 j.0 j.1 l.0 l.1
  three_ranges (Between a b) (Between c d) (Truths e i) m n k h j l = absurd l
  three_ranges (Between a b) (Between c d) (Both e i) m n k h j l = absurd l
  three_ranges (Between a b) (Between c d) Unbounded m n k h j l = tt
  three_ranges (Between a b) (Truths c d) r m n k h j l = absurd j
  three_ranges (Between a b) (Both c d) r m n k h j l = absurd j
  three_ranges (Between a b) Unbounded r m n k h j l = tt
  three_ranges (Truths a b) q r m n k h j l = absurd h
  three_ranges (Both a b) q r m n k h j l = absurd h
  three_ranges Unbounded q r m n k h j l = tt

  three_integers : (bs : List BoundValue) (xs : List LocalValue) → AllLie bs xs → MaybeLies (of_three_ranges g bs) (of_three_integers f xs)
  three_integers bs (IntValue m ∷ IntValue n ∷ IntValue k ∷ []) h = by_bounds bs h
    where
      by_bounds : (bs : List BoundValue) → AllLie bs (IntValue m ∷ IntValue n ∷ IntValue k ∷ []) → Lies (of_three_ranges g bs) (f m n k)
      by_bounds (p ∷ q ∷ r ∷ []) h = three_ranges p q r m n k h.0 h.1.0 h.1.1.0
      by_bounds bs h = absurd assumption
  three_integers bs xs h = tt

module _ (f : Bool → LocalValue) (g : Bool → Bool → BoundValue) (sound : (a b x : Bool) → Lies (Truths a b) (BoolValue x) → Lies (g a b) (f x)) where
  one_truth : (bs : List BoundValue) (xs : List LocalValue) → AllLie bs xs → MaybeLies (of_truths g bs) (of_truth f xs)
  one_truth bs (BoolValue x ∷ []) h = by_bounds bs h
    where
      by_bounds : (bs : List BoundValue) → AllLie bs (BoolValue x ∷ []) → Lies (of_truths g bs) (f x)
      by_bounds (Truths a b ∷ []) h = sound a b x h.0
      by_bounds (Unbounded ∷ []) h = tt
      by_bounds bs h = absurd assumption
  one_truth bs xs h = tt

module _ (f : Bool → Bool → LocalValue) (g : Bool → Bool → Bool → Bool → BoundValue) (sound : (a b c d x y : Bool) → Lies (Truths a b) (BoolValue x) → Lies (Truths c d) (BoolValue y) → Lies (g a b c d) (f x y)) where
  four_truths : (p q : BoundValue) (x y : Bool) → Lies p (BoolValue x) → Lies q (BoolValue y) → Lies (of_four_truths g (p ∷ q ∷ [])) (f x y)
  four_truths (Truths a b) (Truths c d) x y h i = sound a b c d x y h i
  four_truths (Truths a b) (Between c d) x y h i = absurd i
  four_truths (Truths a b) (Both c d) x y h i = absurd i
  four_truths (Truths a b) Unbounded x y h i = tt
  four_truths (Between a b) q x y h i = absurd h
  four_truths (Both a b) q x y h i = absurd h
  four_truths Unbounded q x y h i = tt

  two_truths : (bs : List BoundValue) (xs : List LocalValue) → AllLie bs xs → MaybeLies (of_four_truths g bs) (of_two_truths f xs)
  two_truths bs (BoolValue x ∷ BoolValue y ∷ []) h = by_bounds bs h
    where
      by_bounds : (bs : List BoundValue) → AllLie bs (BoolValue x ∷ BoolValue y ∷ []) → Lies (of_four_truths g bs) (f x y)
      by_bounds (p ∷ q ∷ []) h = four_truths p q x y h.0 h.1.0
      by_bounds bs h = absurd assumption
  two_truths bs xs h = tt

module _ (f : LocalValue → LocalValue → LocalValue) (g : BoundValue → BoundValue → BoundValue) (sound : (a b : BoundValue) (v w : LocalValue) → Lies a v → Lies b w → Lies (g a b) (f v w)) where
  two_values : (bs : List BoundValue) (xs : List LocalValue) → AllLie bs xs → MaybeLies (of_two_bounds g bs) (of_two f xs)
  two_values bs (v ∷ w ∷ []) h = by_bounds bs h
    where
      by_bounds : (bs : List BoundValue) → AllLie bs (v ∷ w ∷ []) → Lies (of_two_bounds g bs) (f v w)
      by_bounds (p ∷ q ∷ []) h = sound p q v w h.0 h.1.0
      by_bounds bs h = absurd assumption
  two_values bs xs h = tt

module _ (f : LocalValue → LocalValue → LocalValue) (g : BoundValue → BoundValue → BoundValue) (sound : (a b : BoundValue) (v w : LocalValue) → Lies a v → Lies b w → Lies (g a b) (f v w)) where
  one_pair : (bs : List BoundValue) (xs : List LocalValue) → AllLie bs xs → MaybeLies (of_both g bs) (of_pair f xs)
  one_pair bs (PairValue v w ∷ []) h = by_bounds bs h
    where
      by_bounds : (bs : List BoundValue) → AllLie bs (PairValue v w ∷ []) → Lies (of_both g bs) (f v w)
      by_bounds (Both a b ∷ []) h = sound a b v w h.0.0 h.0.1
      by_bounds (Unbounded ∷ []) h = tt
      by_bounds bs h = absurd assumption
  one_pair bs xs h = tt

chosen_lies : (must may c : Bool) (a b : BoundValue) (v w : LocalValue) → Lies (Truths must may) (BoolValue c) → Lies a v → Lies b w → Lies (chosen must may a b) (if c then v else w)
chosen_lies true may true a b v w h g i = g
chosen_lies true may false a b v w h g i = let e = h.0 refl in absurd cc
chosen_lies false true true a b v w h g i = either_left a b v g
chosen_lies false true false a b v w h g i = either_right a b w i
chosen_lies false false true a b v w h g i = let e = h.1 refl in absurd cc
chosen_lies false false false a b v w h g i = i

choice : (bs : List BoundValue) (xs : List LocalValue) → AllLie bs xs → MaybeLies (of_chosen bs) (of_choice xs)
choice bs (BoolValue c ∷ v ∷ w ∷ []) h = by_bounds bs h
  where
    by_bounds : (bs : List BoundValue) → AllLie bs (BoolValue c ∷ v ∷ w ∷ []) → Lies (of_chosen bs) (if c then v else w)
    by_bounds (Truths must may ∷ a ∷ b ∷ []) h = chosen_lies must may c a b v w h.0 h.1.0 h.1.1.0
    by_bounds (Unbounded ∷ a ∷ b ∷ []) h = tt
    by_bounds bs h = absurd assumption
choice bs xs h = tt

product_least : (a c n k : ℕ) → a ≤ n → c ≤ k → a * c ≤ n * k
product_least zero c n k h i = omega arith
product_least (suc a) c zero k h i = absurd (omega (arith, h))
product_least (suc a) c (suc n) k h i = let l = product_least a c n k (omega (arith, h)) i in omega (arith, l, i)

min_least : (m a b : ℕ) → a ≤ b → min m a ≤ min m b
min_least m a b h = omega (arith, h)

and_lies : (a b c d x y : Bool) → Lies (Truths a b) (BoolValue x) → Lies (Truths c d) (BoolValue y) → Lies (Truths (a && c) (b && d)) (BoolValue (x && y))
and_lies a b c d x y h g = (low a c h.0 g.0, high x y h.1 g.1)
  where
    low : (a c : Bool) → (a ≡ true → x ≡ true) → (c ≡ true → y ≡ true) → (a && c) ≡ true → (x && y) ≡ true
    low true true p q e = let r = p refl in let s = q refl in rw (r, s) refl
    low true false p q e = absurd cc
    low false c p q e = absurd cc

    high : (x y : Bool) → (x ≡ true → b ≡ true) → (y ≡ true → d ≡ true) → (x && y) ≡ true → (b && d) ≡ true
    high true true p q e = let r = p refl in let s = q refl in rw (r, s) refl
    high true false p q e = absurd cc
    high false c p q e = absurd cc

or_lies : (a b c d x y : Bool) → Lies (Truths a b) (BoolValue x) → Lies (Truths c d) (BoolValue y) → Lies (Truths (a || c) (b || d)) (BoolValue (x || y))
or_lies a b c d x y h g = (up a c x y h.0 g.0, up x y b d h.1 g.1)
  where
    any : (c : Bool) → (c || true) ≡ true
    any true = refl
    any false = refl

    up : (a c x y : Bool) → (a ≡ true → x ≡ true) → (c ≡ true → y ≡ true) → (a || c) ≡ true → (x || y) ≡ true
    up true c x y p q e = let r = p refl in rw r refl
    up false true x y p q e = let r = q refl in rw r (any x)
    up false false x y p q e = absurd cc

not_lies : (a b x : Bool) → Lies (Truths a b) (BoolValue x) → Lies (Truths (not b) (not a)) (BoolValue (not x))
not_lies a b x h = (low b x h.1, high a x h.0)
  where
    low : (b x : Bool) → (x ≡ true → b ≡ true) → not b ≡ true → not x ≡ true
    low b false p e = refl
    low true true p e = absurd cc
    low false true p e = let r = p refl in absurd cc

    high : (a x : Bool) → (a ≡ true → x ≡ true) → not x ≡ true → not a ≡ true
    high false x p e = refl
    high true true p e = absurd cc
    high true false p e = let r = p refl in absurd cc

equal_test : (o : Ordering) → is_equal o ≡ true → o ≡ ord.Equal
equal_test ord.Equal h = refl
equal_test ord.Less h = absurd cc
equal_test ord.Greater h = absurd cc

pub operator_lies : (o : Builtin) (m : ℕ) (bs : List BoundValue) (xs : List LocalValue) → AllLie bs xs → MaybeLies (local_bound o m bs) (local_value o m xs)
operator_lies op.Add m bs xs h = two_integers _ _ (λ a b c d x y p q r s. (omega (arith, p, r), omega (arith, q, s))) bs xs h
operator_lies op.Sub m bs xs h = two_integers _ _ (λ a b c d x y p q r s. (omega (arith, p, s), omega (arith, q, r))) bs xs h
operator_lies op.Mul m bs xs h = two_integers _ _ (λ a b c d x y p q r s. (min_least m (a * c) (x * y) (product_least a c x y p r), min_least m (x * y) (b * d) (product_least x y b d q s))) bs xs h
operator_lies op.Min m bs xs h = two_values _ _ lies_lesser bs xs h
operator_lies op.Max m bs xs h = two_values _ _ lies_greater bs xs h
operator_lies op.Less m bs xs h = two_values _ _ (λ a b v w p q. (must_be_less a b v w p q, less_may a b v w p q)) bs xs h
operator_lies op.Equal m bs xs h = two_values _ _ (λ a b v w p q. (λ e. let r = must_be_equal a b v w p q e in rw r refl, λ e. equal_may a b v w p q (equal_test (compare_values v w) e))) bs xs h
operator_lies op.And m bs xs h = two_truths _ _ and_lies bs xs h
operator_lies op.Or m bs xs h = two_truths _ _ or_lies bs xs h
operator_lies op.Not m bs xs h = one_truth _ _ not_lies bs xs h
operator_lies op.Mux m bs xs h = choice bs xs h
operator_lies op.Pair m bs xs h = two_values _ _ (λ a b v w p q. (p, q)) bs xs h
operator_lies op.Fst m bs xs h = one_pair _ _ (λ a b v w p q. p) bs xs h
operator_lies op.Snd m bs xs h = one_pair _ _ (λ a b v w p q. q) bs xs h
operator_lies op.Rise m bs xs h = three_integers _ _ (λ a b c d e i x y k p q r s t u. (omega (arith, p, r, t), omega (arith, q, s, u))) bs xs h
operator_lies o m bs xs h = tt
