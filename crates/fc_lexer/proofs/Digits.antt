-- Crates above cite this module: what digits begin, what a piece that begins with one holds, and what digits write.
use Rattle.std.proofs.Common.{ℕ, suc, ◌≡◌, ◌+◌, ◌-◌, ◌*◌, ◌^◌, ◌≤◌, Bool, true, false, List, [], ◌∷◌, ◌++◌, refl, ap, ◌∙◌, sym, subst, arith, length, length-append, get_or}
use Rattle.std.specs.Prelude.{◌&&◌, ◌==◌, if◌then◌else◌}
use Rattle.std.specs.List.{list_all}
use Rattle.std.proofs.Math.Nat.{pow-suc}
use Rattle.std.proofs.lemmas.Bool.Decides.{nat_tests}
use Rattle.fc_lexer.specs.declared.tokens.Mark.{Mark}
use Rattle.fc_lexer.specs.declared.tokens.Mark.TheVariants as mark
use Rattle.fc_lexer.specs.declared.bytes.Class.{Class}
use Rattle.fc_lexer.specs.declared.bytes.Class.TheVariants.{Space, Digit, Letter, Slash, Dot, Equals, Single, Other}
use Rattle.fc_values.specs.Names.{is_digit, is_letter}
use Rattle.fc_lexer.specs.Bytes.{begun_class, is_piece, is_rest, is_space, mark_of}
use Rattle.fc_lexer.specs.Kinds.{written}

-- one test of a chain
other_than : (t : Bool) (c d : Class) → (c ≡ Digit → ⊥) → (if t then c else d) ≡ Digit → d ≡ Digit
other_than true c d n h = absurd (n h)
other_than false c d n h = h

pub skip : {want : Class} (t : Bool) (c d : Class) → (c ≡ want → ⊥) → (d ≡ want → ⊥) → (if t then c else d) ≡ want → ⊥
skip true c d n m h = n h
skip false c d n m h = m h

taken : (t : Bool) (d : Class) → (d ≡ Digit → ⊥) → (if t then Digit else d) ≡ Digit → t ≡ true
taken true d n h = refl
taken false d n h = absurd (n h)

-- a mark of one byte, or nothing, is what begins at a byte that begins none of the others
abbrev is_single : Class → Bool
is_single Space = false
is_single Digit = false
is_single Letter = false
is_single Slash = false
is_single Dot = false
is_single Equals = false
is_single (Single m) = true
is_single Other = true

or_mark : (t : Bool) (m : Mark) (d : Class) → is_single d ≡ true → is_single (if t then Single m else d) ≡ true
or_mark true m d h = refl
or_mark false m d h = h

mark_is_single : (b : ℕ) → is_single (mark_of b) ≡ true
unfolding mark_of
mark_is_single b =
    or_mark (b == 40) mark.OpenRound _ (or_mark (b == 41) mark.CloseRound _ (or_mark (b == 123) mark.OpenCurly _
    (or_mark (b == 125) mark.CloseCurly _ (or_mark (b == 44) mark.Comma _ (or_mark (b == 59) mark.Semi _
    (or_mark (b == 58) mark.Colon _ (or_mark (b == 43) mark.Plus _ (or_mark (b == 45) mark.Minus _
    (or_mark (b == 42) mark.Star _ (or_mark (b == 60) mark.Less Other refl))))))))))

pub no_mark : (want : Class) (b : ℕ) → is_single want ≡ false → mark_of b ≡ want → ⊥
no_mark want b h e = let f : is_single want ≡ true = ap is_single (sym e) ∙ mark_is_single b in cc

is_digit_of : (b : ℕ) → begun_class b ≡ Digit → is_digit b ≡ true
unfolding begun_class
is_digit_of b h =
    taken (is_digit b) _
    (skip (is_letter b) Letter _ (λ e. cc) (skip (b == 47) Slash _ (λ e. cc) (skip (b == 46) Dot _ (λ e. cc)
    (skip (b == 61) Equals (mark_of b) (λ e. cc) (no_mark Digit b refl)))))
    (other_than (is_space b) Space _ (λ e. cc) h)

digits_from : (b : ℕ) (bs : List ℕ) → begun_class b ≡ Digit → is_piece (b ∷ bs) ≡ true → list_all is_digit (b ∷ bs) ≡ true
digits_from b bs e h =
    let f : list_all is_digit bs ≡ true = subst (λ class. is_rest class bs ≡ true) e h in
    ap (λ t. t && list_all is_digit bs) (is_digit_of b e) ∙ f

pub all_digits : (bs : List ℕ) → 1 ≤ length bs → begun_class (get_or bs 0 0) ≡ Digit → is_piece bs ≡ true → list_all is_digit bs ≡ true
all_digits [] l e h = refl
all_digits (b ∷ bs) l e h = digits_from b bs e h

-- a digit is no space, and begins a number
pub digit_no_space : (b : ℕ) → is_digit b ≡ true → is_space b ≡ false
digit_no_space b h = grind (arith, nat_tests)

second_of : (s d : Bool) (rest : Class) → s ≡ false → d ≡ true → (if s then Space else if d then Digit else rest) ≡ Digit
second_of false true rest a b = refl
second_of false false rest a b = cc
second_of true d rest a b = cc

pub digit_begins : (b : ℕ) → is_digit b ≡ true → begun_class b ≡ Digit
unfolding begun_class
digit_begins b h = second_of (is_space b) (is_digit b) _ (digit_no_space b h) h

-- the number that is written by one more digit
power_more : (ds : List ℕ) (d : ℕ) → 10 ^ length (ds ++ d ∷ []) ≡ 10 ^ length ds * 10
power_more ds d =
    let e : length (ds ++ d ∷ []) ≡ suc (length ds) = omega (arith, length-append ds (d ∷ [])) in
    ap (λ k. 10 ^ k) e ∙ pow-suc 10 (length ds)

place_more : (x p q w d : ℕ) → q ≡ p * 10 → x * q + (w * 10 + d) ≡ (x * p + w) * 10 + d
place_more x p q w d e = let f : x * q ≡ x * (p * 10) = ap (λ t. x * t) e in omega arith

pub written_more : (ds : List ℕ) (d : ℕ) → written (ds ++ d ∷ []) ≡ written ds * 10 + (d - 48)
written_more [] d = omega arith
written_more (x ∷ ds) d =
    ap (λ w. (x - 48) * 10 ^ length (ds ++ d ∷ []) + w) (written_more ds d)
    ∙ place_more (x - 48) (10 ^ length ds) (10 ^ length (ds ++ d ∷ [])) (written ds) (d - 48) (power_more ds d)
