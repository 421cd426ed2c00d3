-- The words of a command line, as the code takes them apart.
use Rattle.std.proofs.Common.{ℕ, ◌≡◌, ◌-◌, ◌≤◌, List, [], ◌∷◌, map, take, drop, length, get_or}
use Rattle.std.proofs.Common.{sym, ap, ap₂, ◌∙◌, arith, Some}
use Rattle.std.proofs.lemmas.List.{length-drop, take_all}
use Rattle.command_words.specs.declared.choices.CommandName.{CommandName}
use Rattle.command_words.specs.Options.{asked_of}
use Rattle.command_words.specs.Settings.{settings_of}
use Rattle.command_words.specs.Words.{asked, command_of, name_of}

-- the words behind the first
abbrev pub behind : {A : Type 0} → List A → List A
behind words = take (length words - 1) (drop 1 words)

behind_is : {A : Type 0} (words : List A) → behind words ≡ drop 1 words
behind_is words =
    let left = length-drop 1 words in
    take_all (length words - 1) (drop 1 words) (omega (arith, left))

-- the command's word, and those behind it
pub command_is : {A : Type 0} (f : A → List ℕ) (words : List A) (word : A) → 1 ≤ length words
    → 1 ≤ length (behind words) → word ≡ get_or (behind words) 0 word
    → asked (name_of (f word)) (settings_of (map f (behind (behind words)))) ≡ command_of (map f words)
command_is f [] word some more is = absurd (omega (arith, some))
command_is f (program ∷ []) word some more is =
    let none = ap length (behind_is (program ∷ [])) in
    absurd (omega (arith, none, more))
command_is f (program ∷ name ∷ words) word some more is =
    let first : behind (program ∷ name ∷ words) ≡ name ∷ words = behind_is (program ∷ name ∷ words) in
    let second : behind (behind (program ∷ name ∷ words)) ≡ words = ap behind first ∙ behind_is (name ∷ words) in
    let same : word ≡ name = is ∙ ap (λ ws. get_or ws 0 word) first in
    ap₂ (λ w ws. asked (name_of (f w)) (settings_of (map f ws))) same second

-- the same of the command that the word names
pub asked_is : {A : Type 0} (f : A → List ℕ) (n : CommandName) (words : List A) (word : A) → 1 ≤ length words
    → 1 ≤ length (behind words) → word ≡ get_or (behind words) 0 word → name_of (f word) ≡ Some n
    → asked_of n (map f (behind words)) ≡ command_of (map f words)
asked_is f n [] word some more is named = absurd (omega (arith, some))
asked_is f n (program ∷ []) word some more is named =
    let none = ap length (behind_is (program ∷ [])) in
    absurd (omega (arith, none, more))
asked_is f n (program ∷ name ∷ words) word some more is named =
    let first : behind (program ∷ name ∷ words) ≡ name ∷ words = behind_is (program ∷ name ∷ words) in
    let same : word ≡ name = is ∙ ap (λ ws. get_or ws 0 word) first in
    ap (λ ws. asked_of n (map f ws)) first
    ∙ ap (λ o. asked o (settings_of (map f words))) (sym named ∙ ap (λ w. name_of (f w)) same)
