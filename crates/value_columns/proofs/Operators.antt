-- The words that operators leave make the values that they have, by the types of their arguments.
use Rattle.std.proofs.Common.{◌≡◌, ℕ, ◌+◌, ◌*◌, ◌<◌, ◌≤◌, List, [], ◌∷◌, get_or, take, Bool, if◌then◌else◌, Option, Some, Ordering, refl, sym, ap, subst, ◌∙◌, arith}
use Rattle.std.proofs.Math.Nat.{mul-le-mul_left, mul-le-mul_right}
use Rattle.std.proofs.lemmas.List.{get_or-take}
use Rattle.fc_values.specs.declared.builtins.Builtin.{Builtin}
use Rattle.fc_values.specs.declared.builtins.Builtin.TheVariants as op
use Rattle.std.specs.Borrow.{Bor}
use Rattle.fc_values.specs.declared.types.LocalTy.{LocalTy}
use Rattle.fc_values.specs.Types.{local_type_of, LocalType, IntType, BoolType, PairType, leaves}
use Rattle.fc_values.specs.Values.{LocalValue, IntValue, BoolValue, compare_values}
use Rattle.fc_values.specs.Builtins.{of_two_integers, of_three_integers, of_truth, of_two_truths, of_two, of_choice, of_pair, local_value}
use Rattle.fc_values.specs.BuiltinTypes.{Takes, takes_add, takes_sub, takes_mul, takes_rise, takes_min, takes_max, takes_less, takes_equal, takes_and, takes_or, takes_not, takes_mux, takes_pair, takes_fst, takes_snd}
use Rattle.value_columns.specs.Columns.{word_in, truth_of, row_in}
use Rattle.value_columns.specs.Arguments.{leaves_of, types_in, Makes}
use Rattle.value_columns.proofs.Rows.{same_word, some_leaf}
use Rattle.value_columns.proofs.Standing.{row_stays}

-- the types of an operator's arguments, by the type of its value
abbrev pub Typed : Builtin → List LocalType → LocalType → Type 0
Typed op.Add ts t = (ts ≡ IntType ∷ IntType ∷ []) × (t ≡ IntType)
Typed op.Sub ts t = (ts ≡ IntType ∷ IntType ∷ []) × (t ≡ IntType)
Typed op.Mul ts t = (ts ≡ IntType ∷ IntType ∷ []) × (t ≡ IntType)
Typed op.Rise ts t = (ts ≡ IntType ∷ IntType ∷ IntType ∷ []) × (t ≡ IntType)
Typed op.Min ts t = ts ≡ t ∷ t ∷ []
Typed op.Max ts t = ts ≡ t ∷ t ∷ []
Typed op.Less ts t = (s : LocalType) × (ts ≡ s ∷ s ∷ []) × (t ≡ BoolType)
Typed op.Equal ts t = (s : LocalType) × (ts ≡ s ∷ s ∷ []) × (t ≡ BoolType)
Typed op.And ts t = (ts ≡ BoolType ∷ BoolType ∷ []) × (t ≡ BoolType)
Typed op.Or ts t = (ts ≡ BoolType ∷ BoolType ∷ []) × (t ≡ BoolType)
Typed op.Not ts t = (ts ≡ BoolType ∷ []) × (t ≡ BoolType)
Typed op.Mux ts t = ts ≡ BoolType ∷ t ∷ t ∷ []
Typed op.Pair ts t = (s : LocalType) × (u : LocalType) × (ts ≡ s ∷ u ∷ []) × (t ≡ PairType s u)
Typed op.Fst ts t = (u : LocalType) × (ts ≡ PairType t u ∷ [])
Typed op.Snd ts t = (s : LocalType) × (ts ≡ PairType s t ∷ [])
Typed _ ts t = ⊥

typed : {b : Builtin} {ts : List LocalType} {t : LocalType} → Takes b ts t → Typed b ts t
typed takes_add = (refl, refl)
typed takes_sub = (refl, refl)
typed takes_mul = (refl, refl)
typed takes_rise = (refl, refl)
typed (takes_min t) = refl
typed (takes_max t) = refl
typed (takes_less s) = (s, refl, refl)
typed (takes_equal s) = (s, refl, refl)
typed takes_and = (refl, refl)
typed takes_or = (refl, refl)
typed takes_not = (refl, refl)
typed (takes_mux t) = refl
typed (takes_pair s u small) = (s, u, refl, refl)
typed (takes_fst s u) = (u, refl)
typed (takes_snd s u) = (s, refl)

pub typed_as : (a b : Builtin) (ts : List LocalType) (t : LocalType) → a ≡ b → Takes a ts t → Typed b ts t
typed_as a b ts t e takes = subst (λ x. Typed x ts t) e (typed takes)

-- a value has no more leaves than its arguments
fewer_leaves : {b : Builtin} {ts : List LocalType} {t : LocalType} → Takes b ts t → leaves t ≤ leaves_of ts
fewer_leaves takes_add = omega arith
fewer_leaves takes_sub = omega arith
fewer_leaves takes_mul = omega arith
fewer_leaves takes_rise = omega arith
fewer_leaves (takes_min t) = omega arith
fewer_leaves (takes_max t) = omega arith
fewer_leaves (takes_less s) = omega (arith, some_leaf s)
fewer_leaves (takes_equal s) = omega (arith, some_leaf s)
fewer_leaves takes_and = omega arith
fewer_leaves takes_or = omega arith
fewer_leaves takes_not = omega arith
fewer_leaves (takes_mux t) = omega arith
fewer_leaves (takes_pair s u small) = omega arith
fewer_leaves (takes_fst s u) = omega arith
fewer_leaves (takes_snd s u) = omega arith

-- a value stands within its arguments
pub value_fits : (b : Builtin) (ts : List LocalType) (t : LocalType) (rows at count : ℕ) → count ≡ at + rows * leaves_of ts →
    Takes b ts t → at + rows * leaves t ≤ count
value_fits b ts t rows at count long takes = omega (arith, mul-le-mul_left rows (fewer_leaves takes))

pub value_leaves : (b : Builtin) (ts : List LocalType) (t : LocalType) (rows at count : ℕ) → count ≡ at + rows * leaves_of ts →
    Takes b ts t → 0 < rows → leaves t ≤ count
value_leaves b ts t rows at count long takes some =
    omega (arith, value_fits b ts t rows at count long takes, mul-le-mul_right (leaves t) (one rows some))
  where
    one : (n : ℕ) → 0 < n → 1 ≤ n
    one n h = omega arith

-- two arguments of one type, and a truth value before them
pub room_for_two : (ts : List LocalType) (t : LocalType) (rows at count : ℕ) → ts ≡ t ∷ t ∷ [] →
    count ≡ at + rows * leaves_of ts → at + rows * leaves t + rows * leaves t ≤ count
room_for_two ts t rows at count e long =
    let same : rows * leaves_of ts ≡ rows * (leaves t + (leaves t + 0)) = ap (λ x. rows * leaves_of x) e in omega arith

pub room_for_choice : (ts : List LocalType) (t : LocalType) (rows at count : ℕ) → ts ≡ BoolType ∷ t ∷ t ∷ [] →
    count ≡ at + rows * leaves_of ts → at + rows + rows * leaves t + rows * leaves t ≤ count
room_for_choice ts t rows at count e long =
    let same : rows * leaves_of ts ≡ rows * (1 + (leaves t + (leaves t + 0))) = ap (λ x. rows * leaves_of x) e in omega arith

-- the first of two types that are the same, as it is read
pub two_of_first : (tys : List (Bor LocalTy)) (s : LocalType) (r : Bor LocalTy) → types_in tys ≡ s ∷ s ∷ [] → r ≡ get_or tys 0 r →
    types_in tys ≡ local_type_of r.now ∷ local_type_of r.now ∷ []
two_of_first [] s r e h = cc
two_of_first (x ∷ xs) s r e h = let k = ap (λ (z : Bor LocalTy). local_type_of z.now) h in cc

-- the same at another name for the operator and the types
pub made_as : (a b : Builtin) (ceiling : ℕ) (ts us : List LocalType) (t u : LocalType) (rows at : ℕ) (old new : List ℕ) →
    a ≡ b → ts ≡ us → t ≡ u → Makes (local_value b ceiling) us u rows at old new → Makes (local_value a ceiling) ts t rows at old new
made_as a b ceiling ts us t u rows at old new p q r made =
    subst (λ x. Makes (local_value x ceiling) ts t rows at old new) (sym p)
    (subst (λ x. Makes (local_value b ceiling) x t rows at old new) (sym q)
    (subst (λ x. Makes (local_value b ceiling) us x rows at old new) (sym r) made))

-- what is made, from what is in each row
module _ (rows at : ℕ) (old new : List ℕ) (before : (p : ℕ) → p < at → word_in new p ≡ word_in old p) where
  next_word : (i : ℕ) → word_in old (at + rows * 1 + i) ≡ word_in old (at + rows + i)
  next_word i = same_word old (at + rows * 1 + i) (at + rows + i) (omega arith)

  pub two_integers : (f : ℕ → ℕ → ℕ) →
      ((i : ℕ) → i < rows → word_in new (at + i) ≡ f (word_in old (at + i)) (word_in old (at + rows + i))) →
      Makes (of_two_integers (λ a b. IntValue (f a b))) (IntType ∷ IntType ∷ []) IntType rows at old new
  two_integers f values = record {
    values = λ i h. ap (λ w. Some (IntValue w)) (ap (f (word_in old (at + i))) (next_word i) ∙ sym (values i h));
    before = before;
  }

  pub three_integers : (f : ℕ → ℕ → ℕ → ℕ) →
      ((i : ℕ) → i < rows → word_in new (at + i) ≡ f (word_in old (at + i)) (word_in old (at + rows + i)) (word_in old (at + rows + rows + i))) →
      Makes (of_three_integers (λ a b c. IntValue (f a b c))) (IntType ∷ IntType ∷ IntType ∷ []) IntType rows at old new
  three_integers f values = record {
    values = λ i h. ap (λ w. Some (IntValue w))
        (ap (λ w. f (word_in old (at + i)) w (word_in old (at + rows * 1 + rows * 1 + i))) (next_word i)
        ∙ ap (f (word_in old (at + i)) (word_in old (at + rows + i)))
        (same_word old (at + rows * 1 + rows * 1 + i) (at + rows + rows + i) (omega arith))
        ∙ sym (values i h));
    before = before;
  }

  pub two_truths : (f : Bool → Bool → Bool) →
      ((i : ℕ) → i < rows → truth_of (word_in new (at + i)) ≡ f (truth_of (word_in old (at + i))) (truth_of (word_in old (at + rows + i)))) →
      Makes (of_two_truths (λ a b. BoolValue (f a b))) (BoolType ∷ BoolType ∷ []) BoolType rows at old new
  two_truths f values = record {
    values = λ i h. ap (λ b. Some (BoolValue b))
        (ap (λ w. f (truth_of (word_in old (at + i))) (truth_of w)) (next_word i) ∙ sym (values i h));
    before = before;
  }

  pub one_truth : (f : Bool → Bool) →
      ((i : ℕ) → i < rows → truth_of (word_in new (at + i)) ≡ f (truth_of (word_in old (at + i)))) →
      Makes (of_truth (λ a. BoolValue (f a))) (BoolType ∷ []) BoolType rows at old new
  one_truth f values = record {
    values = λ i h. ap (λ b. Some (BoolValue b)) (sym (values i h));
    before = before;
  }

  pub order_test : (f : Ordering → Bool) (t : LocalType) →
      ((i : ℕ) → i < rows → truth_of (word_in new (at + i))
      ≡ f (compare_values (row_in old t rows at i) (row_in old t rows (at + rows * leaves t) i))) →
      Makes (of_two (λ a b. BoolValue (f (compare_values a b)))) (t ∷ t ∷ []) BoolType rows at old new
  order_test f t values = record {
    values = λ i h. ap (λ b. Some (BoolValue b)) (sym (values i h));
    before = before;
  }

  pub two_values : (f : LocalValue → LocalValue → LocalValue) (s u t : LocalType) →
      ((i : ℕ) → i < rows → row_in new t rows at i ≡ f (row_in old s rows at i) (row_in old u rows (at + rows * leaves s) i)) →
      Makes (of_two f) (s ∷ u ∷ []) t rows at old new
  two_values f s u t values = record {
    values = λ i h. ap Some (sym (values i h));
    before = before;
  }

  pub choice : (t : LocalType) →
      ((i : ℕ) → i < rows → row_in new t rows at i
      ≡ (if truth_of (word_in old (at + i)) then row_in old t rows (at + rows) i else row_in old t rows (at + rows + rows * leaves t) i)) →
      Makes of_choice (BoolType ∷ t ∷ t ∷ []) t rows at old new
  choice t values = record {
    values = λ i h. ap Some (ap (λ n. if truth_of (word_in old (at + i)) then row_in old t rows n i else row_in old t rows (n + rows * leaves t) i) one
        ∙ sym (values i h));
    before = before;
  }
    where
      one : at + rows * 1 ≡ at + rows
      one = omega arith

  pub components : (f : LocalValue → LocalValue → LocalValue) (s u t : LocalType) →
      ((i : ℕ) → i < rows → row_in new t rows at i ≡ f (row_in old s rows at i) (row_in old u rows (at + rows * leaves s) i)) →
      Makes (of_pair f) (PairType s u ∷ []) t rows at old new
  components f s u t values = record {
    values = λ i h. ap Some (sym (values i h));
    before = before;
  }

-- what stands behind the values is cut off
pub made_cut : (f : List LocalValue → Option LocalValue) (ts : List LocalType) (t : LocalType) (rows at n : ℕ) (old new cut : List ℕ) →
    at + rows * leaves t ≤ n → cut ≡ take n new → Makes f ts t rows at old new → Makes f ts t rows at old cut
made_cut f ts t rows at n old new cut within e made = record {
  values = λ i h. made.values i h ∙ ap Some (sym (row_stays new cut t rows at i n h within same));
  before = λ p h. same p (omega arith) ∙ made.before p h;
}
  where
    same : (p : ℕ) → p < n → word_in cut p ≡ word_in new p
    same p h = ap (λ ws. word_in ws p) e ∙ get_or-take n new p 0 h
