-- Crates above cite this module: the forms of what slots have, term by term.
use Rattle.std.proofs.Common.{◌≡◌, ℕ, suc, ◌+◌, List, [], ◌∷◌, ◌++◌, length, refl, subst, arith}
use Rattle.std.proofs.lemmas.List.{length-append}
use Rattle.fc_values.specs.Types.{LocalType, IntType, BoolType, PairType}
use Rattle.fc_values.specs.Values.{LocalValue, IntValue, BoolValue, PairValue, Fits, form_of}
use Rattle.fc_values.specs.Exports.{SlotValue, slot_at}
use Rattle.fc_nodes.specs.Terms.{Term, kept, kept_types}
use Rattle.fc_nodes.specs.Flat.{HaveForms}
use Rattle.fc_nodes.proofs.Kept.{kept_long}

-- a value that fits a type has its form
pub fits_form : (ceiling : ℕ) (t : LocalType) (v : LocalValue) → Fits ceiling t v → form_of v ≡ t
fits_form ceiling IntType (IntValue n) h = refl
fits_form ceiling BoolType (BoolValue b) h = refl
fits_form ceiling (PairType s t) (PairValue a b) h = let e = fits_form ceiling s a h.0 in let e' = fits_form ceiling t b h.1 in cc
fits_form ceiling t v h = absurd h

-- the slots from k on have the forms of these types
abbrev pub FormsAt : ℕ → List LocalType → List SlotValue → Type 0
FormsAt k [] xs = Unit {0}
FormsAt k (t ∷ ts) xs = (form_of (slot_at k xs).1 ≡ t) × FormsAt (suc k) ts xs

module _ (xs : List SlotValue) where
  pub forms_first : (ts us : List LocalType) (k : ℕ) → FormsAt k (ts ++ us) xs → FormsAt k ts xs
  forms_first [] us k h = tt
  forms_first (t ∷ ts) us k h = (h.0, forms_first ts us (suc k) h.1)

  pub forms_rest : (ts us : List LocalType) (k n : ℕ) → n ≡ k + length ts → FormsAt k (ts ++ us) xs → FormsAt n us xs
  forms_rest [] us k n e h = let same : k ≡ n = omega arith in subst (λ (j : ℕ). FormsAt j us xs) same h
  forms_rest (t ∷ ts) us k n e h = forms_rest ts us (suc k) n (omega arith) h.1

  pub forms_both : (ts us : List LocalType) (k n : ℕ) → n ≡ k + length ts → FormsAt k ts xs → FormsAt n us xs → FormsAt k (ts ++ us) xs
  forms_both [] us k n e h h' = let same : n ≡ k = omega arith in subst (λ (j : ℕ). FormsAt j us xs) same h'
  forms_both (t ∷ ts) us k n e h h' = (h.0, forms_both ts us (suc k) n (omega arith) h.1 h')

  -- the same, between two terms
  pub after_of : (t : Term) (k : ℕ) → k + kept t ≡ k + length (kept_types t)
  after_of t k = let e = kept_long t in omega arith

  pub forms_two : (a b : Term) (k : ℕ) → FormsAt k (kept_types a ++ kept_types b) xs → FormsAt k (kept_types a) xs × FormsAt (k + kept a) (kept_types b) xs
  forms_two a b k h = (forms_first (kept_types a) (kept_types b) k h, forms_rest (kept_types a) (kept_types b) k (k + kept a) (after_of a k) h)

  pub two_forms : (a b : Term) (k : ℕ) → FormsAt k (kept_types a) xs → FormsAt (k + kept a) (kept_types b) xs → FormsAt k (kept_types a ++ kept_types b) xs
  two_forms a b k h h' = forms_both (kept_types a) (kept_types b) k (k + kept a) (after_of a k) h h'

  after_two : (c a : Term) (k : ℕ) → k + kept c + kept a ≡ k + length (kept_types c ++ kept_types a)
  after_two c a k = let e = kept_long c in let e' = kept_long a in simp (length-append) (omega arith)

  pub forms_three : (c a b : Term) (k : ℕ) → FormsAt k (kept_types c ++ kept_types a ++ kept_types b) xs → FormsAt k (kept_types c) xs × FormsAt (k + kept c) (kept_types a) xs × FormsAt (k + kept c + kept a) (kept_types b) xs
  forms_three c a b k h =
      let both = forms_two c a k (forms_first (kept_types c ++ kept_types a) (kept_types b) k h) in
      (both.0, both.1, forms_rest (kept_types c ++ kept_types a) (kept_types b) k (k + kept c + kept a) (after_two c a k) h)

  pub three_forms : (c a b : Term) (k : ℕ) → FormsAt k (kept_types c) xs → FormsAt (k + kept c) (kept_types a) xs → FormsAt (k + kept c + kept a) (kept_types b) xs → FormsAt k (kept_types c ++ kept_types a ++ kept_types b) xs
  three_forms c a b k h h' h'' = forms_both (kept_types c ++ kept_types a) (kept_types b) k (k + kept c + kept a) (after_two c a k) (two_forms c a k h h') h''

-- slots with the forms of some types, one for each
pub have_long : (ts : List LocalType) (xs : List SlotValue) → HaveForms ts xs → length xs ≡ length ts
have_long [] [] h = refl
have_long (t ∷ ts) (x ∷ xs) h = let e = have_long ts xs h.1 in cc
have_long ts xs h = absurd h

module _ (x : SlotValue) (xs : List SlotValue) where
  later_forms : (ts : List LocalType) (k : ℕ) → FormsAt k ts xs → FormsAt (suc k) ts (x ∷ xs)
  unfolding slot_at
  later_forms [] k h = tt
  later_forms (t ∷ ts) k h = (h.0, later_forms ts (suc k) h.1)

  earlier_forms : (ts : List LocalType) (k : ℕ) → FormsAt (suc k) ts (x ∷ xs) → FormsAt k ts xs
  unfolding slot_at
  earlier_forms [] k h = tt
  earlier_forms (t ∷ ts) k h = (h.0, earlier_forms ts (suc k) h.1)

pub have_forms_at : (ts : List LocalType) (xs : List SlotValue) → HaveForms ts xs → FormsAt 0 ts xs
unfolding slot_at
have_forms_at [] xs h = tt
have_forms_at (t ∷ ts) (x ∷ xs) h = (h.0, later_forms x xs ts 0 (have_forms_at ts xs h.1))
have_forms_at (t ∷ ts) [] h = absurd h

pub forms_have : (ts : List LocalType) (xs : List SlotValue) → length xs ≡ length ts → FormsAt 0 ts xs → HaveForms ts xs
unfolding slot_at
forms_have [] [] e h = tt
forms_have (t ∷ ts) (x ∷ xs) e h = (h.0, forms_have ts xs (cc) (earlier_forms x xs ts 0 h.1))
forms_have [] (x ∷ xs) e h = absurd cc
forms_have (t ∷ ts) [] e h = absurd cc
