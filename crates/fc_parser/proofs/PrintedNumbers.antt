-- The pieces that are numbers.
use Rattle.std.proofs.Common.{ℕ, ◌≡◌, ◌+◌, ◌-◌, ◌*◌, ◌/◌, ◌%◌, ◌<◌, ◌≤◌, Bool, true, false, ◌&&◌, ◌||◌, ◌==◌, List, [], ◌∷◌, ◌++◌, length, min, refl, ap, ◌∙◌, sym, subst, arith, length-append, decimal}
use Rattle.std.specs.List.{list_all}
use Rattle.std.proofs.lemmas.Fmt.{decimal_by_steps}
use Rattle.std.proofs.lemmas.List.Folds.{list_all-append}
use Rattle.std.proofs.lemmas.Bool.Decides.{nat_tests}
use Rattle.fc_lexer.specs.declared.bytes.Class.TheVariants.{Digit}
use Rattle.fc_values.specs.Names.{is_digit, is_letter}
use Rattle.fc_lexer.specs.Bytes.{begun_class, is_rest}
use Rattle.fc_lexer.specs.Kinds.{NumberOf, token_kind_as, written}
use Rattle.fc_lexer.specs.Apart.{Breaks, kind_as}
use Rattle.fc_lexer.proofs.Digits.{digit_begins, digit_no_space, written_more}
use Rattle.fc_syntax.specs.Printable.{IsNumber}
use Rattle.fc_parser.proofs.PrintedRuns.{InWord, InSpace, Follows, Meets, Inner, one_piece}

-- digits, one at least, that write a number
record Writes (n : ℕ) (ds : List ℕ) : Type 0 where
  some : 0 < length ds
  digits : list_all is_digit ds ≡ true
  value : written ds ≡ n

digit_of : (n : ℕ) → n < 10 → is_digit (48 + n) ≡ true
digit_of n h = grind (arith, nat_tests)

writes_one : (n : ℕ) → n < 10 → Writes n ((48 + n) ∷ [])
writes_one n h = record { some = omega arith; digits = ap (λ t. t && true) (digit_of n h); value = omega arith }

writes_more : (n : ℕ) (ds : List ℕ) → 10 ≤ n → Writes (n / 10) ds → Writes n (ds ++ ((48 + n % 10) ∷ []))
writes_more n ds h w =
    let v : written (ds ++ ((48 + n % 10) ∷ [])) ≡ written ds * 10 + ((48 + n % 10) - 48) = written_more ds (48 + n % 10) in
    let u : written ds ≡ n / 10 = w.value in
    let r : n % 10 < 10 = omega arith in
    record {
      some = omega (arith, length-append ds ((48 + n % 10) ∷ []));
      digits = list_all-append is_digit ds ((48 + n % 10) ∷ []) ∙ ap (λ t. t && (is_digit (48 + n % 10) && true)) w.digits ∙ ap (λ t. t && true) (digit_of (n % 10) r);
      value = omega arith;
    }

writes_decimal : (n : ℕ) → IsNumber n → Writes n (decimal n)
writes_decimal n h = decimal_by_steps Writes writes_one writes_more n (omega arith)

not_middle : (a b c : Bool) → (a || b || c) ≡ false → b ≡ false
not_middle a false c h = refl
not_middle false true c h = cc
not_middle true true c h = cc

breaks_digit : (others text : List ℕ) → Follows InWord text → Breaks Digit others text
breaks_digit others [] h = tt
breaks_digit others (c ∷ text) h = not_middle (is_letter c) (is_digit c) (c == 95) h

and_two : (a b : Bool) → (a && b) ≡ true → (a ≡ true) × (b ≡ true)
and_two true true h = (refl, refl)
and_two true false h = cc
and_two false b h = cc

small : (w n : ℕ) → w ≡ n → n ≤ 1000000 → min w 1000001 ≡ n
small w n e h = omega arith

digits_run : (n : ℕ) (ds : List ℕ) → Writes n ds → IsNumber n → Inner InWord ds (NumberOf n ∷ [])
digits_run n [] w h = absurd (omega (arith, w.some))
digits_run n (d ∷ ds) w h =
    let both = and_two (is_digit d) (list_all is_digit ds) w.digits in
    let c : begun_class d ≡ Digit = digit_begins d both.0 in
    record {
      run =
          one_piece InWord d ds (NumberOf n ∷ [])
          (ap (λ class. is_rest class ds) c ∙ both.1)
          (λ text f. subst (λ class. Breaks class ds text) (sym c) (breaks_digit ds text f))
          (ap (λ class. kind_as (token_kind_as class (d ∷ ds) ds)) c ∙ ap (λ m. NumberOf m ∷ []) (small (written (d ∷ ds)) n w.value h));
      no_semi = refl;
    }

digits_start : (n : ℕ) (ds : List ℕ) → Writes n ds → Meets InSpace ds
digits_start n [] w = absurd (omega (arith, w.some))
digits_start n (d ∷ ds) w = digit_no_space d (and_two (is_digit d) (list_all is_digit ds) w.digits).0

pub number_run : (n : ℕ) → IsNumber n → Inner InWord (decimal n) (NumberOf n ∷ [])
number_run n h = digits_run n (decimal n) (writes_decimal n h) h

pub number_starts : (n : ℕ) → IsNumber n → Meets InSpace (decimal n)
number_starts n h = digits_start n (decimal n) (writes_decimal n h)
