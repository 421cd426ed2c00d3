-- A number that was written is read.
use Rattle.std.proofs.Common.{ℕ, ◌≡◌, ◌<◌, ◌≤◌, Bool, true, false, List, [], ◌∷◌, length, refl, ap, arith, Some, le-leb, nat_eq}
use Rattle.std.specs.Char.{is_ascii_digit}
use Rattle.std.specs.Fmt.{decimal}
use Rattle.std.specs.List.{list_all}
use Rattle.std.specs.Str.{bytes_eq}
use Rattle.std.specs.Str.Parse.{AllDigits}
use Rattle.std.proofs.lemmas.Bool.{and_from}
use Rattle.std.proofs.lemmas.Bool.Decides.{nat_tests}
use Rattle.std.proofs.lemmas.Fmt.{decimal_is_IsNumeral, length-decimal-le}
use Rattle.std.proofs.lemmas.Str.Parse.{digit_from_value}
use Rattle.fc_values.specs.Numbers.{number_of}
use Rattle.log_lines.proofs.Words.{AllAbove}

all_digits : (ds : List ℕ) → AllDigits 10 ds → list_all is_ascii_digit ds ≡ true
all_digits [] h = refl
all_digits (d ∷ ds) h =
    let k = digit_from_value d h.0 in
    let t : is_ascii_digit d ≡ true = and_from _ _ (le-leb 48 d (omega (arith, k))) (le-leb d 57 (omega (arith, k))) in
    rw t (all_digits ds h.1)

digits_above : (ds : List ℕ) → AllDigits 10 ds → AllAbove 32 ds
digits_above [] h = tt
digits_above (d ∷ ds) h = let k = digit_from_value d h.0 in (omega (arith, k), digits_above ds h.1)

-- a number of at most seven digits
pub number_back : (n : ℕ) → n ≤ 1000000 → number_of (decimal n) ≡ Some n
number_back n l =
    let d = decimal_is_IsNumeral n (omega (arith, l)) in
    let some = le-leb 1 (length (decimal n)) (omega (arith, d.0.0)) in
    let few = le-leb (length (decimal n)) 7 (length-decimal-le 7 n (omega arith) (omega (arith, l)) (omega (arith, l))) in
    let all = all_digits (decimal n) d.0.1 in
    rw (some, few, all) (ap Some d.1)

pub number_above : (n : ℕ) → n ≤ 1000000 → AllAbove 32 (decimal n)
number_above n l = digits_above (decimal n) (decimal_is_IsNumeral n (omega (arith, l))).0.1

-- it is no word
other_word : (ds : List ℕ) (b : ℕ) (bs : List ℕ) → AllDigits 10 ds → 57 < b → bytes_eq ds (b ∷ bs) ≡ false
other_word [] b bs h l = refl
other_word (d ∷ ds) b bs h l =
    let k = digit_from_value d h.0 in
    let n : ◌≡◌ {A = Bool} (nat_eq d b) false = grind (arith, nat_tests) in
    rw n refl

pub no_word : (n : ℕ) (b : ℕ) (bs : List ℕ) → n ≤ 1000000 → 57 < b → bytes_eq (decimal n) (b ∷ bs) ≡ false
no_word n b bs l k = other_word (decimal n) b bs (decimal_is_IsNumeral n (omega (arith, l))).0.1 k
