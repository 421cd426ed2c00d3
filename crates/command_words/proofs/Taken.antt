-- How the settings of words are read, word by word.
use Rattle.std.proofs.Math.Seq.{drop-cons}
use Rattle.std.proofs.Common.{ℕ, ◌≡◌, ◌+◌, ◌<◌, map, drop, length, slice_index_or, add-one, List, [], ◌∷◌, ◌++◌, refl, sym, ap, ◌∙◌, Option, Some, None, option_map, append_assoc}
use Rattle.command_words.specs.declared.settings.Setting.{Setting}
use Rattle.command_words.specs.declared.settings.Numbered.{Numbered}
use Rattle.command_words.specs.declared.settings.Setting.TheVariants as set
use Rattle.fc_values.specs.Numbers.{number_of}
use Rattle.command_words.specs.Settings.{before, option_of, setting_of, settings_of, numbered_setting}

-- the settings of the words, of which the first is the number of an option where one waits for it
abbrev pub settings_after : Option Numbered → List (List ℕ) → Option (List Setting)
settings_after None words = settings_of words
settings_after (Some option) [] = None
settings_after (Some option) (word ∷ words) = before (numbered_setting (Some option) (number_of word)) (settings_of words)

-- the same after those that are read
abbrev pub all_from : List Setting → Option Numbered → List (List ℕ) → Option (List Setting)
all_from read waiting words = option_map (λ more. read ++ more) (settings_after waiting words)

of_word : (word : List ℕ) (words : List (List ℕ)) → option_of word ≡ None → settings_of (word ∷ words) ≡ before (setting_of word) (settings_of words)
of_word word [] e = rw e refl
of_word word (next ∷ words) e = rw e refl

of_option : (word : List ℕ) (words : List (List ℕ)) (option : Numbered) → option_of word ≡ Some option → settings_of (word ∷ words) ≡ settings_after (Some option) words
of_option word [] option e = rw e refl
of_option word (next ∷ words) option e = rw e refl

moved : (read : List Setting) (s : Setting) (left : Option (List Setting)) → option_map (λ more. (read ++ s ∷ []) ++ more) left ≡ option_map (λ more. read ++ more) (before (Some s) left)
moved read s None = refl
moved read s (Some more) = ap Some (append_assoc read (s ∷ []) more)

-- an option that waits takes its number from the word
pub numbered : (read pushed : List Setting) (option : Numbered) (value : ℕ) (word : List ℕ) (left words : List (List ℕ)) → left ≡ word ∷ words → Some value ≡ number_of word
    → pushed ≡ read ++ set.Option option value ∷ [] → all_from pushed None words ≡ all_from read (Some option) left
numbered read pushed option value word left words e n p =
    ap (λ r. all_from r None words) p ∙ moved read (set.Option option value) (settings_of words)
    ∙ ap (λ m. option_map (λ more. read ++ more) (before (numbered_setting (Some option) m) (settings_of words))) n
    ∙ ap (all_from read (Some option)) (sym e)

-- an option's name makes it wait
pub waits : (read : List Setting) (option : Numbered) (word : List ℕ) (left words : List (List ℕ)) → left ≡ word ∷ words → Some option ≡ option_of word
    → all_from read (Some option) words ≡ all_from read None left
waits read option word left words e n =
    ap (option_map (λ more. read ++ more)) (sym (of_option word words option (sym n))) ∙ ap (all_from read None) (sym e)

-- another word sets something by itself
pub sets : (read pushed : List Setting) (s : Setting) (word : List ℕ) (left words : List (List ℕ)) → left ≡ word ∷ words → None ≡ option_of word → Some s ≡ setting_of word
    → pushed ≡ read ++ s ∷ [] → all_from pushed None words ≡ all_from read None left
sets read pushed s word left words e n t p =
    ap (λ r. all_from r None words) p ∙ moved read s (settings_of words)
    ∙ ap (λ m. option_map (λ more. read ++ more) (before m (settings_of words))) t
    ∙ ap (option_map (λ more. read ++ more)) (sym (of_word word words (sym n))) ∙ ap (all_from read None) (sym e)

pub sets_nothing : (read : List Setting) (word : List ℕ) (left words : List (List ℕ)) → left ≡ word ∷ words → None ≡ option_of word → None ≡ setting_of word → all_from read None left ≡ None
sets_nothing read word left words e n t =
    ap (all_from read None) e ∙ ap (option_map (λ more. read ++ more)) (of_word word words (sym n))
    ∙ ap (λ m. option_map (λ more. read ++ more) (before m (settings_of words))) (sym t)

-- the list from an index on is the element there and the list after it
pub front_at : {A B : Type 0} (f : A → B) (words : List A) (i : ℕ) (d : A) → i < length words
    → map f (drop i words) ≡ f (slice_index_or words i d) ∷ map f (drop (i + 1) words)
front_at f words i d h = rw add-one (ap (map f) (drop-cons words i d h))

pub front : {A : Type 0} (f : A → List ℕ) (words : List A) (i : ℕ) (word : A) → i < length words → word ≡ slice_index_or words i word
    → map f (drop i words) ≡ f word ∷ map f (drop (i + 1) words)
front f words i word h is = front_at f words i word h ∙ ap (λ w. f w ∷ map f (drop (i + 1) words)) (sym is)
