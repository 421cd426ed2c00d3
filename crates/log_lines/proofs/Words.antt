-- Words of a line: they are found again, and so is the line in its text.
use Rattle.std.proofs.Common.{ℕ, zero, suc, ◌≡◌, ◌+◌, ◌-◌, ◌<◌, Bool, true, false, ◌==◌, List, [], ◌∷◌, ◌++◌, length, take, get_or, refl, ap, ◌∙◌, arith, length-append, nat_lt, ◌&&◌, if◌then◌else◌, lt-ltb, ltb-true, eq-eqb}
use Rattle.std.proofs.lemmas.Bool.Decides.{nat_tests}
use Rattle.std.proofs.lemmas.List.{get_or_at, take_at}
use Rattle.std.proofs.lemmas.Bool.{and_parts}
use Rattle.std.specs.List.{list_all}
use Rattle.std.specs.Io.BufRead.{strip_last}
use Rattle.fc_io.specs.Lines.{lines_of, line_text, is_empty}
use Rattle.edit_commands.specs.Lines.{words_of}

-- bytes that are all above another
abbrev pub AllAbove : ℕ → List ℕ → Type 0
AllAbove k [] = Unit {0}
AllAbove k (b ∷ bs) = (k < b) × AllAbove k bs

pub above_both : (k : ℕ) (xs ys : List ℕ) → AllAbove k xs → AllAbove k ys → AllAbove k (xs ++ ys)
above_both k [] ys h g = g
above_both k (x ∷ xs) ys h g = (h.0, above_both k xs ys h.1 g)

-- bytes that are written out are tested
pub above_tested : (k : ℕ) (xs : List ℕ) → list_all (λ x. nat_lt k x) xs ≡ true → AllAbove k xs
above_tested k [] h = tt
above_tested k (x ∷ xs) h = let p = and_parts _ _ h in (ltb-true k x p.0, above_tested k xs p.1)

pub above_less : (k : ℕ) (xs : List ℕ) → AllAbove (k + 1) xs → AllAbove k xs
above_less k [] h = tt
above_less k (x ∷ xs) h = let l = h.0 in (omega (arith, l), above_less k xs h.1)

differs : (b k : ℕ) → k < b → (b == k) ≡ false
differs b k h = grind (arith, nat_tests)

-- ---- words

-- the bytes of a word stand above the space
abbrev pub AreWords : List (List ℕ) → Type 0
AreWords [] = Unit {0}
AreWords (w ∷ ws) = AllAbove 32 w × AreWords ws

-- words with a space between each two
abbrev pub joined : List (List ℕ) → List ℕ
joined [] = []
joined (w ∷ []) = w
joined (w ∷ u ∷ ws) = w ++ 32 ∷ joined (u ∷ ws)

one_word : (w : List ℕ) → AllAbove 32 w → words_of w ≡ w ∷ []
one_word [] h = refl
one_word (b ∷ bs) h = rw (differs b 32 h.0, one_word bs h.1) refl

first_word : (w rest : List ℕ) → AllAbove 32 w → words_of (w ++ 32 ∷ rest) ≡ w ∷ words_of rest
first_word [] rest h = refl
first_word (b ∷ bs) rest h = rw (differs b 32 h.0, first_word bs rest h.1) refl

pub words_back : (w : List ℕ) (ws : List (List ℕ)) → AllAbove 32 w → AreWords ws → words_of (joined (w ∷ ws)) ≡ w ∷ ws
words_back w [] h g = one_word w h
words_back w (u ∷ ws) h g = first_word w (joined (u ∷ ws)) h ∙ ap (λ us. w ∷ us) (words_back u ws g.0 g.1)

-- so the bytes of a line are spaces or stand above them
pub joined_above : (ws : List (List ℕ)) → AreWords ws → AllAbove 31 (joined ws)
joined_above [] h = tt
joined_above (w ∷ []) h = above_less 31 w h.0
joined_above (w ∷ u ∷ ws) h =
    above_both 31 w (32 ∷ joined (u ∷ ws)) (above_less 31 w h.0) (omega arith, joined_above (u ∷ ws) h.1)

-- ---- lines

-- a line and its end are the first line of a text
pub first_line : (line rest : List ℕ) → AllAbove 31 line → lines_of ((line ++ 10 ∷ []) ++ rest) ≡ (line ++ 10 ∷ []) ∷ lines_of rest
first_line [] rest h = refl
first_line (b ∷ bs) rest h = let l = h.0 in rw (differs b 10 (omega (arith, l)), first_line bs rest h.1) refl

last_is : (xs : List ℕ) (y : ℕ) → get_or (xs ++ y ∷ []) (length (xs ++ y ∷ []) - 1) 0 ≡ y
last_is xs y = get_or_at xs y [] 0 (length (xs ++ y ∷ []) - 1) (omega (arith, length-append xs (y ∷ [])))

last_above : (k : ℕ) (xs : List ℕ) (i : ℕ) → AllAbove k xs → i < length xs → k < get_or xs i 0
last_above k [] i h l = absurd (omega arith)
last_above k (x ∷ xs) zero h l = h.0
last_above k (x ∷ xs) (suc i) h l = last_above k xs i h.1 (omega arith)

-- the end of a line is taken off
stripped : (xs : List ℕ) (y : ℕ) → strip_last y (xs ++ y ∷ []) ≡ xs
stripped xs y =
    let long : length (xs ++ y ∷ []) ≡ length xs + 1 = length-append xs (y ∷ []) in
    let some = lt-ltb 0 (length (xs ++ y ∷ [])) (omega (arith, long)) in
    let last : (get_or (xs ++ y ∷ []) (length (xs ++ y ∷ []) - 1) 0 == y) ≡ true = ap (λ b. b == y) (last_is xs y) ∙ eq-eqb y y refl in
    rw (some, last) (take_at xs (y ∷ []) (length (xs ++ y ∷ []) - 1) (omega (arith, long)))

-- and nothing where the last byte is another one
either_no : {A : Type 0} (p q : Bool) (a b : A) → q ≡ false → (if p && q then a else b) ≡ b
either_no true q a b e = rw e refl
either_no false q a b e = refl

kept : (line : List ℕ) → 0 < length line → AllAbove 31 line → strip_last 13 line ≡ line
kept line some h =
    either_no (nat_lt 0 (length line)) (get_or line (length line - 1) 0 == 13) (take (length line - 1) line) line
    (let l = last_above 31 line (length line - 1) h (omega (arith, some)) in differs (get_or line (length line - 1) 0) 13 (omega (arith, l)))

pub line_back : (line : List ℕ) → 0 < length line → AllAbove 31 line → line_text (line ++ 10 ∷ []) ≡ line
line_back line some h = ap (strip_last 13) (stripped line 10) ∙ kept line some h

pub not_empty : (line : List ℕ) → 0 < length line → AllAbove 31 line → is_empty (line ++ 10 ∷ []) ≡ false
not_empty line some h = ap (λ l. length l == 0) (line_back line some h) ∙ differs (length line) 0 some
