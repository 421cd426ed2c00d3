-- What `clap` makes of words of which some write numbers: such a word is no flag, whatever its digits are.
use Rattle.std.proofs.Common.{ℕ, ◌≡◌, ◌≤◌, ◌==◌, Bool, true, false, ◌&&◌, ◌||◌, if◌then◌else◌, is_some}
use Rattle.std.proofs.Common.{List, [], ◌∷◌, ◌++◌, map, length, nat_le, refl, ap, ap₂, ◌∙◌, arith, rules}
use Rattle.std.proofs.Common.{Option, Some, None, option_and_then}
use Rattle.std.specs.Prelude.{fold}
use Rattle.std.specs.List.{list_all}
use Rattle.std.specs.Option.{option_map_or}
use Rattle.std.specs.Str.{bytes_eq}
use Rattle.std.specs.Char.{is_ascii_digit}
use Rattle.std.specs.Str.Parse.{digits_value}
use Rattle.std.proofs.lemmas.Bool.Decides.{nat_tests}
use Rattle.clap.specs.Lexer.{long_of, long_of_rest, short_of, short_of_rest, strip_byte}
use Rattle.clap.specs.Simple.{App, Shape, argument_words, built, entered, is_simple, matches_of, names_of}
use Rattle.clap.specs.Takes.{bundle_passes, default_passes, entered_passes, flag_word_passes, is_valid}
use Rattle.clap.specs.Takes.{other_passes, settle_passes, step_passes, takes, turn_passes, walk_passes, word_passes}
use Rattle.clap.specs.Walk.{Held, Names, Row, Rule, Step, Waiting, Walk, after_step, finished, idle, long_or_other}
use Rattle.clap.specs.Walk.{nothing_held, option, plain_word, positional, short_or_plain, subcommand_met, trailing}
use Rattle.clap.specs.Walk.{subcommand_or_other, value, walk, walk_from, walked, walked_from, word_met}
use Rattle.fc_values.specs.Numbers.{is_number, number_of}
use Rattle.command_words.proofs.Pieces.{Digits, Word, digits, digits_text, spelled, word_text}

pub both : (a b : Bool) → (a && b) ≡ true → (a ≡ true) × (b ≡ true)
both true true e = (refl, refl)
both true false e = cc
both false b e = cc

third_of : (a b c : Bool) → (a && b && c) ≡ true → c ≡ true
third_of true true c e = e
third_of true false c e = cc
third_of false b c e = cc

-- a number begins with no hyphen
digit_first : (x : ℕ) (xs : List ℕ) (n : ℕ) → number_of (x ∷ xs) ≡ Some n → (x == 45) ≡ false
digit_first x xs n e = go (is_number (x ∷ xs)) refl e
  where
    go : (b : Bool) → is_number (x ∷ xs) ≡ b → (if b then Some (digits_value 10 (x ∷ xs)) else None) ≡ Some n
        → (x == 45) ≡ false
    go true p h =
        let all = third_of (nat_le 1 (length (x ∷ xs))) (nat_le (length (x ∷ xs)) 7)
        (list_all is_ascii_digit (x ∷ xs)) p in
        let digit : is_ascii_digit x ≡ true = (both (is_ascii_digit x) (list_all is_ascii_digit xs) all).0 in
        let e : (48 ≤ x) × (x ≤ 57) = search (rules, nat_tests) in
        grind (arith, nat_tests)
    go false p h = cc

module _ (d : Digits) where
  no_hyphen : (d.first == 45) ≡ false
  no_hyphen = digit_first d.first d.rest d.value d.writes

  no_dashes : bytes_eq (digits_text d) (45 ∷ 45 ∷ []) ≡ false
  no_dashes = rw no_hyphen refl

  no_long : long_of (digits_text d) ≡ None
  no_long =
      ap (λ b. option_and_then long_of_rest (option_and_then (strip_byte 45) (if b then Some d.rest else None)))
      no_hyphen

  no_short : short_of (digits_text d) ≡ None
  no_short = ap (λ b. option_and_then short_of_rest (if b then Some d.rest else None)) no_hyphen

  no_subcommand : (waiting : Waiting) → subcommand_met [] waiting (digits_text d) ≡ None
  no_subcommand idle = refl
  no_subcommand (option id) = refl
  no_subcommand positional = refl

  -- what the word is
  abbrev pub digits_met : List Rule → Bool → Waiting → Held → Held × Step
  digits_met c is_trailing waiting h = if is_trailing then (h, value) else plain_word c waiting (digits_text d) h

  met_is : (c : List Rule) (is_trailing : Bool) (waiting : Waiting) (position : ℕ) (h : Held)
      → word_met c [] is_trailing waiting position (digits_text d) h ≡ digits_met c is_trailing waiting h
  met_is c is_trailing waiting position h =
      ap (λ (m : Held × Step). if is_trailing then (h, value) else m)
      (ap (λ o. subcommand_or_other c o waiting position (digits_text d) h) (no_subcommand waiting)
      ∙ ap (λ b. if b then (h, trailing position)
      else long_or_other c waiting (digits_text d) (long_of (digits_text d)) h)
      no_dashes
      ∙ ap (λ o. long_or_other c waiting (digits_text d) o h) no_long
      ∙ ap (λ o. short_or_plain c waiting (digits_text d) o h) no_short)

  -- the walk after it
  abbrev pub digits_from : List Rule → Option (List ℕ × List (List ℕ)) → Walk → Walk
  digits_from c (Some p) w = record w { stopped = Some (p.0, p.1 ++ digits_text d ∷ []) }
  digits_from c None w =
      after_step c (digits_text d) w (digits_met c w.is_trailing w.waiting w.held).0
      (digits_met c w.is_trailing w.waiting w.held).1

  from_is : (c : List Rule) (o : Option (List ℕ × List (List ℕ))) (w : Walk)
      → walked_from c [] o w (digits_text d) ≡ digits_from c o w
  from_is c (Some p) w = refl
  from_is c None w =
      ap (λ (m : Held × Step). after_step c (digits_text d) w m.0 m.1)
      (met_is c w.is_trailing w.waiting w.position w.held)

  walked_is : (c : List Rule) (w : Walk) → walked c [] w (digits_text d) ≡ digits_from c w.stopped w
  unfolding walked
  walked_is c w = from_is c w.stopped w

  -- whether it passes
  abbrev pub digits_pass : Shape → Walk → Bool
  digits_pass s w = is_some w.stopped
      || step_passes s w.position (digits_met s.rules w.is_trailing w.waiting w.held).0
      (digits_met s.rules w.is_trailing w.waiting w.held).1

  or_true : (b : Bool) → (b || true) ≡ true
  or_true true = refl
  or_true false = refl

  word_is_fine : (s : Shape) (is_trailing : Bool) (waiting : Waiting) (h : Held)
      → word_passes s [] is_trailing waiting (digits_text d) h ≡ true
  word_is_fine s is_trailing waiting h =
      ap (λ b. is_trailing || b)
      (ap (λ o. other_passes s o (digits_text d) h) (no_subcommand waiting)
      ∙ ap (λ b. b || flag_word_passes s.rules s.args_override_self (long_of (digits_text d)) (digits_text d) h)
      no_dashes
      ∙ ap (λ o. flag_word_passes s.rules s.args_override_self o (digits_text d) h) no_long
      ∙ ap (λ o. option_map_or (λ flags. bundle_passes s.rules s.args_override_self flags h) o true) no_short)
      ∙ or_true is_trailing

  pass_is : (s : Shape) (w : Walk) → turn_passes s [] w (digits_text d) ≡ digits_pass s w
  pass_is s w =
      ap₂ (λ b (m : Held × Step). is_some w.stopped || (b && step_passes s w.position m.0 m.1))
      (word_is_fine s w.is_trailing w.waiting w.held) (met_is s.rules w.is_trailing w.waiting w.position w.held)

-- ---- all the words
abbrev pub word_walked : List Rule → Walk → Word → Walk
word_walked c w (spelled text) = walked c [] w text
word_walked c w (digits d) = digits_from d c w.stopped w

abbrev pub words_walked : List Rule → Walk → List Word → Walk
words_walked c w [] = w
words_walked c w (word ∷ words) = words_walked c (word_walked c w word) words

abbrev pub word_pass : Shape → Walk → Word → Bool
word_pass s w (spelled text) = turn_passes s [] w text
word_pass s w (digits d) = digits_pass d s w

abbrev pub words_pass : Shape → Walk → List Word → Bool
words_pass s w [] = true
words_pass s w (word ∷ words) = word_pass s w word && words_pass s (word_walked s.rules w word) words

word_walked_is : (c : List Rule) (w : Walk) (word : Word) → walked c [] w (word_text word) ≡ word_walked c w word
word_walked_is c w (spelled text) = refl
word_walked_is c w (digits d) = walked_is d c w

words_walked_is : (c : List Rule) (w : Walk) (words : List Word)
    → fold (walked c []) w (map word_text words) ≡ words_walked c w words
words_walked_is c w [] = refl
words_walked_is c w (word ∷ words) =
    ap (λ v. fold (walked c []) v (map word_text words)) (word_walked_is c w word)
    ∙ words_walked_is c (word_walked c w word) words

word_pass_is : (s : Shape) (w : Walk) (word : Word) → turn_passes s [] w (word_text word) ≡ word_pass s w word
word_pass_is s w (spelled text) = refl
word_pass_is s w (digits d) = pass_is d s w

words_pass_is : (s : Shape) (w : Walk) (words : List Word)
    → walk_passes s [] w (map word_text words) ≡ words_pass s w words
unfolding walk_passes
words_pass_is s w [] = refl
words_pass_is s w (word ∷ words) =
    ap₂ (λ b v. b && walk_passes s [] v (map word_text words)) (word_pass_is s w word) (word_walked_is s.rules w word)
    ∙ ap (λ b. word_pass s w word && b) (words_pass_is s (word_walked s.rules w word) words)

-- ---- what a command takes, and what it finds
abbrev pub rows_from : App → Walk → List Row
rows_from app end = finished (built app).top.rules end.held

abbrev pub takes_from : App → Walk → Bool → Bool
takes_from app end passes = is_simple app && (entered_passes (built app) end.stopped
    && (passes && (settle_passes (built app).top.rules (built app).top.args_override_self end.held
    && (list_all default_passes (built app).top.rules
    && is_valid (built app).top (rows_from app end) (is_some (entered (built app) end.stopped))))))

abbrev pub end_of : App → List Word → Walk
end_of app words = words_walked (built app).top.rules (walk_from nothing_held) words

-- a command without subcommands, of which the first word is the name
pub record IsNamed (app : App) : Type 0 where
  pub names : names_of (built app) ≡ []
  pub named : app.top.no_binary_name ≡ false

module _ (app : App) (is : IsNamed app) (name : List ℕ) (words : List Word) where
  arguments_are : argument_words app (name ∷ map word_text words) ≡ map word_text words
  arguments_are = ap (λ b. if b then name ∷ map word_text words else map word_text words) is.named

  abbrev walk_by : Names → List (List ℕ) → Walk
  walk_by names texts = walk (built app).top.rules names nothing_held texts

  walk_is : walk_by (names_of (built app)) (argument_words app (name ∷ map word_text words)) ≡ end_of app words
  walk_is =
      ap₂ walk_by is.names arguments_are
      ∙ words_walked_is (built app).top.rules (walk_from nothing_held) words

  passes_is : walk_passes (built app).top (names_of (built app)) (walk_from nothing_held)
      (argument_words app (name ∷ map word_text words)) ≡ words_pass (built app).top (walk_from nothing_held) words
  passes_is =
      ap₂ (λ names texts. walk_passes (built app).top names (walk_from nothing_held) texts) is.names arguments_are
      ∙ words_pass_is (built app).top (walk_from nothing_held) words

  pub rows_are : matches_of app (name ∷ map word_text words) ≡ rows_from app (end_of app words)
  rows_are = ap (rows_from app) walk_is

  pub takes_is : takes app (name ∷ map word_text words)
      ≡ takes_from app (end_of app words) (words_pass (built app).top (walk_from nothing_held) words)
  takes_is = ap₂ (takes_from app) walk_is passes_is
