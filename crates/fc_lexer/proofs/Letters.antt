-- Crates above cite this module: what letters begin, and names as tokens.
use Rattle.std.proofs.Common.{ℕ, ◌≡◌, ◌≤◌, Bool, true, false, ◌&&◌, ◌==◌, List, [], ◌∷◌, refl, ap, ◌∙◌, subst, arith, Option, Some, None, if◌then◌else◌}
use Rattle.std.specs.Prelude.{is_none}
use Rattle.std.specs.List.{list_all}
use Rattle.std.specs.Option.{option_map_or}
use Rattle.std.proofs.lemmas.Bool.Decides.{nat_tests}
use Rattle.fc_values.specs.declared.names.Word.{Word}
use Rattle.fc_values.specs.Names.{is_digit, is_letter, is_name_byte, word_of, IsName}
use Rattle.fc_lexer.specs.declared.bytes.Class.{Class}
use Rattle.fc_lexer.specs.declared.bytes.Class.TheVariants.{Space, Digit, Letter, Slash, Dot, Equals, Single, Other}
use Rattle.fc_lexer.specs.Bytes.{begun_class, mark_of, is_rest, is_piece, is_space}
use Rattle.fc_lexer.specs.Kinds.{TokenKind, NumberOf, WordOf, NameOf, MarkOf, token_kind, token_kind_as, word_or_name_of}
use Rattle.fc_lexer.proofs.Digits.{no_mark, skip}

-- a letter is no space and no digit
letter_least : (b : ℕ) → is_letter b ≡ true → 65 ≤ b
letter_least b h = grind (arith, nat_tests)

no_space : (b : ℕ) → 33 ≤ b → is_space b ≡ false
no_space b h = grind (arith, nat_tests)

no_digit : (b : ℕ) → 58 ≤ b → is_digit b ≡ false
no_digit b h = grind (arith, nat_tests)

pub letter_no_space : (b : ℕ) → is_letter b ≡ true → is_space b ≡ false
letter_no_space b h = let l : 65 ≤ b = letter_least b h in no_space b (omega arith)

letter_no_digit : (b : ℕ) → is_letter b ≡ true → is_digit b ≡ false
letter_no_digit b h = let l : 65 ≤ b = letter_least b h in no_digit b (omega arith)

third : (s d l : Bool) (rest : Class) → s ≡ false → d ≡ false → l ≡ true
    → (if s then Space else if d then Digit else if l then Letter else rest) ≡ Letter
third false false true rest a b c = refl
third false false false rest a b c = cc
third false true l rest a b c = cc
third true d l rest a b c = cc

-- a letter begins a name or word
pub letter_begins : (b : ℕ) → is_letter b ≡ true → begun_class b ≡ Letter
unfolding begun_class
letter_begins b h = third (is_space b) (is_digit b) (is_letter b) _ (letter_no_space b h) (letter_no_digit b h) h

-- and no other byte does
letter_only : (s d l : Bool) (rest : Class) → (rest ≡ Letter → ⊥)
    → (if s then Space else if d then Digit else if l then Letter else rest) ≡ Letter → l ≡ true
letter_only true d l rest n h = cc
letter_only false true l rest n h = cc
letter_only false false true rest n h = refl
letter_only false false false rest n h = absurd (n h)

is_letter_of : (b : ℕ) → begun_class b ≡ Letter → is_letter b ≡ true
unfolding begun_class
is_letter_of b h =
    letter_only (is_space b) (is_digit b) (is_letter b) _
    (skip (b == 47) Slash _ (λ e. cc) (skip (b == 46) Dot _ (λ e. cc) (skip (b == 61) Equals (mark_of b) (λ e. cc) (no_mark Letter b refl)))) h

-- the parts of a name
three : (a b : Bool) (o : Option Word) → (a && b && is_none o) ≡ true → (a ≡ true) × (b ≡ true) × (o ≡ None)
three true true None h = (refl, refl, refl)
three true true (Some w) h = cc
three true false o h = cc
three false b o h = cc

pub name_parts : (b : ℕ) (bs : List ℕ) → IsName (b ∷ bs) → (is_letter b ≡ true) × (list_all is_name_byte bs ≡ true) × (word_of (b ∷ bs) ≡ None)
name_parts b bs h = three (is_letter b) (list_all is_name_byte bs) (word_of (b ∷ bs)) h

all_three : (a b : Bool) (o : Option Word) → a ≡ true → b ≡ true → o ≡ None → (a && b && is_none o) ≡ true
all_three true true None p q r = refl
all_three true true (Some w) p q r = cc
all_three true false o p q r = cc
all_three false b o p q r = cc

is_name_of : (b : ℕ) (bs : List ℕ) → begun_class b ≡ Letter → is_rest (begun_class b) bs ≡ true → word_of (b ∷ bs) ≡ None → IsName (b ∷ bs)
is_name_of b bs c r w =
    all_three (is_letter b) (list_all is_name_byte bs) (word_of (b ∷ bs)) (is_letter_of b c) (subst (λ class. is_rest class bs ≡ true) c r) w

-- what is no word is a name
pub is_named : (b : ℕ) (bs : List ℕ) → word_of (b ∷ bs) ≡ None → word_or_name_of (b ∷ bs) ≡ NameOf (b ∷ bs)
is_named b bs w = ap (λ o. option_map_or WordOf o (NameOf (b ∷ bs))) w

-- a name is one piece, and the token of this name
pub name_piece : (word : List ℕ) → IsName word → (is_piece word ≡ true) × (token_kind word ≡ Some (NameOf word))
name_piece [] h = absurd cc
name_piece (b ∷ bs) h =
    let parts = name_parts b bs h in
    let l : begun_class b ≡ Letter = letter_begins b parts.0 in
    (ap (λ class. is_rest class bs) l ∙ parts.1, ap (λ class. token_kind_as class (b ∷ bs) bs) l ∙ ap Some (is_named b bs parts.2))

-- a piece that is the token of a name is this name
abbrev pub IfNamed : List ℕ → Option TokenKind → Type 0
IfNamed piece None = Unit {0}
IfNamed piece (Some (NumberOf n)) = Unit {0}
IfNamed piece (Some (WordOf w)) = Unit {0}
IfNamed piece (Some (NameOf x)) = (x ≡ piece) × IsName x
IfNamed piece (Some (MarkOf m)) = Unit {0}

named_or_word : (b : ℕ) (bs : List ℕ) (w : Option Word) → begun_class b ≡ Letter → is_rest (begun_class b) bs ≡ true → word_of (b ∷ bs) ≡ w
    → IfNamed (b ∷ bs) (Some (option_map_or WordOf w (NameOf (b ∷ bs))))
named_or_word b bs None c r e = (refl, is_name_of b bs c r e)
named_or_word b bs (Some w) c r e = tt

named_as : (b : ℕ) (bs : List ℕ) (class : Class) → begun_class b ≡ class → is_rest (begun_class b) bs ≡ true → IfNamed (b ∷ bs) (token_kind_as class (b ∷ bs) bs)
named_as b bs Space c r = tt
named_as b bs Digit c r = tt
named_as b bs Letter c r = named_or_word b bs (word_of (b ∷ bs)) c r refl
named_as b bs Slash c r = tt
named_as b bs Dot c r = tt
named_as b [] Equals c r = tt
named_as b (d ∷ bs) Equals c r = tt
named_as b bs (Single m) c r = tt
named_as b bs Other c r = tt

pub named_piece : (piece : List ℕ) → is_piece piece ≡ true → IfNamed piece (token_kind piece)
named_piece [] h = tt
named_piece (b ∷ bs) h = named_as b bs (begun_class b) refl h
