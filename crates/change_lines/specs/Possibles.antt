-- What words say of values that an input, and of weights that a link, may have.
use Rattle.std.specs.Prelude.{ℕ, ◌==◌, ◌&&◌, not, nat_le, if◌then◌else◌, List, [], ◌∷◌, take, drop, codes}
use Rattle.std.specs.Prelude.{Option, Some, None, option_map, option_and_then}
use Rattle.std.specs.List.{prefix_len}
use Rattle.std.specs.Option.{option_or}
use Rattle.std.specs.Str.{bytes_eq}
use Rattle.fc_values.specs.Numbers.{number_of}
use Rattle.fc_values.specs.Values.{LocalValue, IntValue, BoolValue, PairValue}
use Rattle.edit_commands.specs.EditLines.{with_two}
use Rattle.edit_commands.specs.Values.{written_value}
use Rattle.changes.specs.declared.types.Range.{Range}
use Rattle.changes.specs.declared.types.Possible.{Possible}
use Rattle.changes.specs.declared.types.Possible.TheVariants as possible
use Rattle.changes.specs.declared.types.Weights.{Weights}
use Rattle.changes.specs.declared.types.Weights.TheVariants as weights
use Rattle.changes.specs.Changes.{range}

-- ---- a range: two numbers with two dots between them, the first at most the second

abbrev pub in_order : Range → Option Range
in_order r = if nat_le r.least r.greatest then Some r else None

abbrev pub range_with : List ℕ → List ℕ → Option Range
range_with low high = option_and_then in_order (with_two range (number_of low) (number_of high))

-- what stands before the first dot, and all from there on
abbrev pub before_dot : List ℕ → ℕ
before_dot word = prefix_len (λ b. not (b == 46)) word

abbrev pub dotted : List ℕ → List ℕ → Option Range
dotted low (x ∷ y ∷ high) = if x == 46 && y == 46 then range_with low high else None
dotted low _ = None

abbrev pub range_of_word : List ℕ → Option Range
range_of_word word = dotted (take (before_dot word) word) (drop (before_dot word) word)

-- ---- values of an input: a value, a range, or `any`. No input is a pair, so all pairs are alike

abbrev pub one_number : ℕ → Range
one_number n = range n n

abbrev pub one_value : LocalValue → Possible
one_value (IntValue n) = possible.Numbers (one_number n)
one_value (BoolValue b) = possible.Truth b
one_value (PairValue v w) = possible.Pair

abbrev pub possible_of : List ℕ → Option Possible
possible_of word =
    if bytes_eq word (codes "any") then Some possible.Any
    else option_or (option_map possible.Numbers (range_of_word word)) (option_map one_value (written_value word))

-- the values that words say, if each says some
abbrev pub possibles_of : List (List ℕ) → Option (List Possible)
possibles_of [] = Some []
possibles_of (word ∷ words) = with_two (λ p ps. p ∷ ps) (possible_of word) (possibles_of words)

-- ---- weights of a link: a number, a range, or `any`

abbrev pub numbers_of : List ℕ → Option Range
numbers_of word = option_or (range_of_word word) (option_map one_number (number_of word))

abbrev pub weights_of : List ℕ → Option Weights
weights_of word = if bytes_eq word (codes "any") then Some weights.Any else option_map weights.Range (numbers_of word)
