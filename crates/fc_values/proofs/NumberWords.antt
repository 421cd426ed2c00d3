-- Numbers, read digit by digit.
use Rattle.std.proofs.Common.{ℕ, ◌≡◌, ◌+◌, ◌-◌, ◌*◌, ◌^◌, ◌<◌, ◌≤◌, Bool, true, false, ◌&&◌, List, length, take, get_or, refl, sym, ap, ◌∙◌, arith, rules, Some, None, nat_le}
use Rattle.std.specs.List.{list_all}
use Rattle.std.specs.Char.{is_ascii_digit, digit_value}
use Rattle.std.specs.Str.Parse.{digits_value}
use Rattle.std.proofs.lemmas.Int.Digits.{digits_value_more}
use Rattle.std.proofs.lemmas.List.{length-take, take_all}
use Rattle.std.proofs.lemmas.List.Folds.{list_all_more, list_all_at}
use Rattle.std.proofs.lemmas.Str.{digit_value_digit}
use Rattle.std.proofs.lemmas.Str.Parse.{IsNumeralModel, numerals_by_value, digits_value_short}
use Rattle.std.proofs.lemmas.Bool.Decides.{nat_tests}
use Rattle.fc_values.specs.Numbers.{is_number, number_of}

own : IsNumeralModel (λ ds. list_all is_ascii_digit ds ≡ true) (digits_value 10)
own = numerals_by_value _ (search rules)

taken_within : (word : List ℕ) (i k : ℕ) → length word ≤ k → length (take i word) ≤ k
taken_within word i k few = omega (arith, length-take i word)

-- the first digits of a short word write a number that fits
pub short_number : (word : List ℕ) (i : ℕ) → length word ≤ 7 → list_all is_ascii_digit (take i word) ≡ true → digits_value 10 (take i word) < 10 ^ 7
short_number word i few h = digits_value_short own (take i word) 7 h (taken_within word i 7 few)

digit_is : (b : ℕ) → is_ascii_digit b ≡ true → digit_value b ≡ b - 48
digit_is b h = let e : digit_value b + 48 ≡ b = digit_value_digit b (search (rules, nat_tests)) in omega arith

-- one more digit
pub one_digit : (word : List ℕ) (i value : ℕ) → i < length word → value ≡ digits_value 10 (take i word) → list_all is_ascii_digit (take i word) ≡ true → is_ascii_digit (get_or word i 0) ≡ true
    → (value * 10 + (get_or word i 0 - 48) ≡ digits_value 10 (take (i + 1) word)) × (list_all is_ascii_digit (take (i + 1) word) ≡ true)
one_digit word i value within is all digit = (
  ap (λ n. n * 10 + (get_or word i 0 - 48)) is ∙ ap (λ d. digits_value 10 (take i word) * 10 + d) (sym (digit_is _ digit)) ∙ sym (digits_value_more 10 word i within),
  list_all_more is_ascii_digit word i 0 within ∙ both _ _ all digit,
)
  where
    both : (p q : Bool) → p ≡ true → q ≡ true → (p && q) ≡ true
    both true q h k = k
    both false q h k = h

pub digit_small : (b : ℕ) → is_ascii_digit b ≡ true → b - 48 ≤ 9
digit_small b h = let e : (48 ≤ b) × (b ≤ 57) = search (rules, nat_tests) in omega arith

three : (p q r : Bool) → p ≡ true → q ≡ true → r ≡ true → (p && q && r) ≡ true
three true true true h k l = refl
three true true false h k l = l
three true false r h k l = absurd cc
three false q r h k l = absurd cc

third : (p q r : Bool) → r ≡ false → (p && q && r) ≡ false
third true true r h = h
third true false r h = refl
third false q r h = refl

-- what the loop ends with
pub number_read : (word : List ℕ) (value i : ℕ) → 1 ≤ length word → length word ≤ 7 → length word ≤ i → value ≡ digits_value 10 (take i word) → list_all is_ascii_digit (take i word) ≡ true → Some value ≡ number_of word
number_read word value i some few end is all =
    let t : take i word ≡ word = take_all i word end in
    let a : nat_le 1 (length word) ≡ true = grind (arith, nat_tests) in
    let b : nat_le (length word) 7 ≡ true = grind (arith, nat_tests) in
    let d : list_all is_ascii_digit word ≡ true = ap (list_all is_ascii_digit) (sym t) ∙ all in
    let e : is_number word ≡ true = three (nat_le 1 (length word)) (nat_le (length word) 7) (list_all is_ascii_digit word) a b d in
    rw e (ap Some (is ∙ ap (digits_value 10) t))

pub number_off : (word : List ℕ) (i : ℕ) → i < length word → is_ascii_digit (get_or word i 0) ≡ false → None ≡ number_of word
number_off word i within off =
    let e : is_number word ≡ false = third (nat_le 1 (length word)) (nat_le (length word) 7) (list_all is_ascii_digit word) (list_all_at is_ascii_digit word i 0 within off) in
    rw e refl
