-- The words that set something, piece by piece: a flag, an option with its number in one word or two, or a number.
use Rattle.std.proofs.Common.{ℕ, ◌≡◌, ◌+◌, ◌<◌, ◌≤◌, Bool, true, false, if◌then◌else◌, is_some}
use Rattle.std.proofs.Common.{List, [], ◌∷◌, ◌++◌, map, length, get_or, nat_lt}
use Rattle.std.proofs.Common.{refl, sym, ap, ap₂, ◌∙◌, subst, arith, Option, Some, None, option_map}
use Rattle.std.specs.List.{before_first, after_first, position_or_len}
use Rattle.std.specs.Option.{option_or}
use Rattle.std.specs.Str.{bytes_eq}
use Rattle.std.proofs.lemmas.Bool.Decides.{nat_tests}
use Rattle.std.proofs.lemmas.List.{drop_all}
use Rattle.std.proofs.lemmas.List.Sums.{passes_at_first, split_at_first}
use Rattle.std.proofs.lemmas.Slice.Eq.{bytes_eq-Decides}
use Rattle.fc_values.specs.Numbers.{number_of}
use Rattle.command_words.specs.declared.settings.Flag.{Flag}
use Rattle.command_words.specs.declared.settings.Setting.{Setting}
use Rattle.command_words.specs.declared.settings.Setting.TheVariants as set
use Rattle.command_words.specs.declared.settings.Numbered.{Numbered}
use Rattle.command_words.specs.Settings.{all_flags, all_options, attached, before, flag_name, flag_of, hyphened, is_equals}
use Rattle.command_words.specs.Settings.{option_name, option_of, setting_of, settings_of, numbered_setting}
use Rattle.command_words.proofs.AllKinds.{find_passes}

-- a word that writes a number
pub record Digits : Type 0 where
  pub first : ℕ
  pub rest : List ℕ
  pub value : ℕ
  pub writes : number_of (first ∷ rest) ≡ Some value

abbrev pub digits_text : Digits → List ℕ
digits_text d = d.first ∷ d.rest

-- what sets something, but for the number
pub data Piece : Type 0 where
  flagged : Flag → Piece
  apart : Numbered → Piece
  joined : Numbered → Piece
  alone : Piece

-- a word of a command line: one that is spelled out, or a number
pub data Word : Type 0 where
  spelled : List ℕ → Word
  digits : Digits → Word

abbrev pub word_text : Word → List ℕ
word_text (spelled text) = text
word_text (digits d) = digits_text d

abbrev pub words_by : Piece → Digits → List Word
words_by (flagged f) d = spelled (hyphened (flag_name f)) ∷ []
words_by (apart o) d = spelled (hyphened (option_name o)) ∷ digits d ∷ []
words_by (joined o) d = spelled (hyphened (option_name o) ++ 61 ∷ digits_text d) ∷ []
words_by alone d = digits d ∷ []

abbrev pub setting_by : Piece → Digits → Setting
setting_by (flagged f) d = set.Flag f
setting_by (apart o) d = set.Option o d.value
setting_by (joined o) d = set.Option o d.value
setting_by alone d = set.Alone d.value

-- a piece with its digits, which a flag ignores
abbrev pub Written : Type 0
Written = Piece × Digits

abbrev pub written_words : List Written → List Word
written_words [] = []
written_words (w ∷ ws) = words_by w.0 w.1 ++ written_words ws

abbrev pub written_settings : List Written → List Setting
written_settings [] = []
written_settings (w ∷ ws) = setting_by w.0 w.1 ∷ written_settings ws

-- words that set these, piece by piece
pub record AreWritten (words : List (List ℕ)) (settings : List Setting) : Type 0 where
  pub written : List Written
  pub words_are : words ≡ map word_text (written_words written)
  pub settings_are : settings ≡ written_settings written

-- a word that sets this
record IsWritten (word : List ℕ) (s : Setting) : Type 0 where
  pub piece : Piece
  pub its : Digits
  pub word_is : word ∷ [] ≡ map word_text (words_by piece its)
  pub setting_is : s ≡ setting_by piece its

-- ---- numbers
-- a word that writes a number
record IsDigits (word : List ℕ) (n : ℕ) : Type 0 where
  pub its : Digits
  pub word_is : word ≡ digits_text its
  pub value_is : its.value ≡ n

are_digits : (word : List ℕ) (n : ℕ) → number_of word ≡ Some n → IsDigits word n
are_digits [] n e = absurd cc
are_digits (x ∷ xs) n e = record {
  its = record { first = x; rest = xs; value = n; writes = e };
  word_is = refl;
  value_is = refl;
}

-- some digits, where none are written
abbrev pub one : Digits
one = record { first = 49; rest = []; value = 1; writes = refl }

-- ---- names
same : (s t : Setting) → Some s ≡ Some t → s ≡ t
same s t e = cc

flag_named : (word : List ℕ) (f : Flag) → flag_of word ≡ Some f → word ≡ hyphened (flag_name f)
unfolding flag_of
flag_named word f e =
    sym ((bytes_eq-Decides (hyphened (flag_name f)) word).0
    (find_passes (λ g. bytes_eq (hyphened (flag_name g)) word) all_flags f e))

option_named : (word : List ℕ) (o : Numbered) → option_of word ≡ Some o → word ≡ hyphened (option_name o)
unfolding option_of
option_named word o e =
    sym ((bytes_eq-Decides (hyphened (option_name o)) word).0
    (find_passes (λ p. bytes_eq (hyphened (option_name p)) word) all_options o e))

flag_written : (word : List ℕ) (f : Flag) → flag_of word ≡ Some f → IsWritten word (set.Flag f)
flag_written word f e = record {
  piece = flagged f;
  its = one;
  word_is = ap (λ w. w ∷ []) (flag_named word f e);
  setting_is = refl;
}

-- a word with something after its first `=`
some_after : (word : List ℕ) (x : ℕ) (xs : List ℕ) → after_first is_equals word ≡ x ∷ xs
    → position_or_len is_equals word < length word
some_after word x xs e = go (nat_lt (position_or_len is_equals word) (length word)) refl
  where
    go : (b : Bool) → nat_lt (position_or_len is_equals word) (length word) ≡ b
        → position_or_len is_equals word < length word
    go true p = grind (arith, nat_tests)
    go false p =
        let long : length word ≤ position_or_len is_equals word + 1 = grind (arith, nat_tests) in
        let none : after_first is_equals word ≡ [] = drop_all (position_or_len is_equals word + 1) word long in
        absurd (cc (none, e))

equals_is : (x : ℕ) → is_equals x ≡ true → x ≡ 61
equals_is x e = grind (arith, nat_tests)

cut_at : (word : List ℕ) (x : ℕ) (xs : List ℕ) → after_first is_equals word ≡ x ∷ xs
    → word ≡ before_first is_equals word ++ 61 ∷ x ∷ xs
cut_at word x xs e =
    let within = some_after word x xs e in
    let at = equals_is (get_or word (position_or_len is_equals word) 0) (passes_at_first is_equals word 0 within) in
    split_at_first is_equals word 0 within ∙ ap₂ (λ y ys. before_first is_equals word ++ y ∷ ys) at e

joined_written : (word : List ℕ) (s : Setting) (o : Option Numbered) (n : Option ℕ)
    → option_of (before_first is_equals word) ≡ o → number_of (after_first is_equals word) ≡ n
    → numbered_setting o n ≡ Some s → IsWritten word s
joined_written word s (Some o) (Some n) p q e =
    let d = are_digits (after_first is_equals word) n q in
    record {
      piece = joined o;
      its = d.its;
      word_is = ap (λ w. w ∷ []) (cut_at word d.its.first d.its.rest d.word_is
          ∙ ap (λ name. name ++ 61 ∷ digits_text d.its) (option_named (before_first is_equals word) o p));
      setting_is = same s (set.Option o n) (sym e) ∙ ap (set.Option o) (sym d.value_is);
    }
joined_written word s (Some o) None p q e = cc
joined_written word s None n p q e = cc

alone_written : (word : List ℕ) (s : Setting) (n : Option ℕ) → number_of word ≡ n
    → option_map set.Alone n ≡ Some s → IsWritten word s
alone_written word s None q e = cc
alone_written word s (Some n) q e =
    let d = are_digits word n q in
    record {
      piece = alone;
      its = d.its;
      word_is = ap (λ w. w ∷ []) d.word_is;
      setting_is = same s (set.Alone n) (sym e) ∙ ap set.Alone (sym d.value_is);
    }

-- one word
word_written : (word : List ℕ) (s : Setting) → setting_of word ≡ Some s → IsWritten word s
word_written word s e = by_flag (flag_of word) refl e
  where
    by_joined : (o : Option Setting) → attached word ≡ o
        → option_or o (option_map set.Alone (number_of word)) ≡ Some s → IsWritten word s
    by_joined (Some t) p h = joined_written word s _ _ refl refl (p ∙ h)
    by_joined None p h = alone_written word s (number_of word) refl h

    by_flag : (o : Option Flag) → flag_of word ≡ o
        → option_or (option_map set.Flag o) (option_or (attached word) (option_map set.Alone (number_of word))) ≡ Some s
        → IsWritten word s
    by_flag (Some f) p h = subst (IsWritten word) (same (set.Flag f) s h) (flag_written word f p)
    by_flag None p h = by_joined (attached word) refl h

-- ---- all the words
same_all : (ss ts : List Setting) → Some ss ≡ Some ts → ss ≡ ts
same_all ss ts e = cc

one_more : (word : List ℕ) (words : List (List ℕ)) (s : Setting) (ss settings : List Setting) → setting_of word ≡ Some s
    → Some (s ∷ ss) ≡ Some settings → AreWritten words ss → AreWritten (word ∷ words) settings
one_more word words s ss settings p e further =
    let this = word_written word s p in
    record {
      written = (this.piece, this.its) ∷ further.written;
      words_are = ap (λ (ws : List (List ℕ)). word ∷ ws) further.words_are
          ∙ ap (λ (ws : List (List ℕ)). ws ++ map word_text (written_words further.written)) this.word_is
          ∙ sym (map_append (words_by this.piece this.its) (written_words further.written));
      settings_are = sym (same_all (s ∷ ss) settings e)
          ∙ ap₂ (λ (t : Setting) (ts : List Setting). t ∷ ts) this.setting_is further.settings_are;
    }
  where
    map_append : (front back : List Word) → map word_text (front ++ back) ≡ map word_text front ++ map word_text back
    map_append [] back = refl
    map_append (a ∷ front) back = ap (λ (ws : List (List ℕ)). word_text a ∷ ws) (map_append front back)

two_more : (word next : List ℕ) (words : List (List ℕ)) (o : Numbered) (n : ℕ) (ss settings : List Setting)
    → option_of word ≡ Some o → number_of next ≡ Some n → Some (set.Option o n ∷ ss) ≡ Some settings
    → AreWritten words ss → AreWritten (word ∷ next ∷ words) settings
two_more word next words o n ss settings p q e further =
    let d = are_digits next n q in
    record {
      written = (apart o, d.its) ∷ further.written;
      words_are = ap₂ (λ (a b : List ℕ). a ∷ b ∷ words) (option_named word o p) d.word_is
          ∙ ap (λ (ws : List (List ℕ)). hyphened (option_name o) ∷ digits_text d.its ∷ ws) further.words_are;
      settings_are = sym (same_all (set.Option o n ∷ ss) settings e)
          ∙ ap₂ (λ (v : ℕ) (ts : List Setting). set.Option o v ∷ ts) (sym d.value_is) further.settings_are;
    }

last_written : (word : List ℕ) (o : Option Numbered) (t : Option Setting) (settings : List Setting)
    → setting_of word ≡ t → (if is_some o then None else before t (Some [])) ≡ Some settings
    → AreWritten (word ∷ []) settings
last_written word (Some o) t settings p e = cc
last_written word None None settings p e = cc
last_written word None (Some s) settings p e =
    one_more word [] s [] settings p e (record { written = []; words_are = refl; settings_are = refl })

more_written : (word next : List ℕ) (words : List (List ℕ)) (o : Option Numbered) (n : Option ℕ) (t : Option Setting)
    (later rest : Option (List Setting)) (settings : List Setting) → option_of word ≡ o → number_of next ≡ n
    → setting_of word ≡ t
    → (if is_some o then before (numbered_setting o n) later else before t rest) ≡ Some settings
    → ((ss : List Setting) → later ≡ Some ss → AreWritten words ss)
    → ((ss : List Setting) → rest ≡ Some ss → AreWritten (next ∷ words) ss)
    → AreWritten (word ∷ next ∷ words) settings
more_written word next words (Some o) (Some n) t (Some ss) rest settings p q r e hyp other =
    two_more word next words o n ss settings p q e (hyp ss refl)
more_written word next words (Some o) (Some n) t None rest settings p q r e hyp other = cc
more_written word next words (Some o) None t later rest settings p q r e hyp other = cc
more_written word next words None n None later rest settings p q r e hyp other = cc
more_written word next words None n (Some s) later None settings p q r e hyp other = cc
more_written word next words None n (Some s) later (Some ss) settings p q r e hyp other =
    one_more word (next ∷ words) s ss settings r e (other ss refl)

-- words that set something are written so
pub are_written : (words : List (List ℕ)) (settings : List Setting) → settings_of words ≡ Some settings
    → AreWritten words settings
are_written [] settings e =
    record { written = []; words_are = refl; settings_are = sym (same_all [] settings e) }
are_written (word ∷ []) settings e = last_written word (option_of word) (setting_of word) settings refl e
are_written (word ∷ next ∷ words) settings e =
    more_written word next words (option_of word) (number_of next) (setting_of word) (settings_of words)
    (settings_of (next ∷ words)) settings refl refl refl e (are_written words) (are_written (next ∷ words))
