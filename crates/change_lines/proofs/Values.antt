-- Words that say values, read one after another.
use Rattle.std.proofs.Common.{ℕ, ◌≡◌, ◌++◌, List, [], ◌∷◌, refl, sym, ap, ◌∙◌, Some, None, append_assoc, append-nil}
use Rattle.std.specs.Prelude.{Option, option_map}
use Rattle.fc_values.specs.Values.{LocalValue}
use Rattle.edit_commands.specs.EditLines.{with_two}
use Rattle.edit_commands.specs.Narrow.{narrow}
use Rattle.changes.specs.declared.types.Possible.{Possible}
use Rattle.change_lines.specs.Possibles.{one_value, possible_of, possibles_of}

-- a value that isn't read says nothing
pub none_said : (o : Option LocalValue) → None ≡ option_map narrow o → None ≡ option_map one_value o
none_said None e = refl
none_said (Some v) e = absurd cc

-- what is said after what was read
abbrev pub behind : List Possible → Option (List Possible) → Option (List Possible)
behind xs None = None
behind xs (Some ys) = Some (xs ++ ys)

abbrev pub ReadBehind : List (List ℕ) → List Possible → List (List ℕ) → Type 0
ReadBehind words read rest = possibles_of words ≡ behind read (possibles_of rest)

pub read_none : (words : List (List ℕ)) (read : List Possible) → read ≡ [] → ReadBehind words read words
read_none words read none = by_case (possibles_of words) ∙ ap (λ r. behind r (possibles_of words)) (sym none)
  where
    by_case : (o : Option (List Possible)) → o ≡ behind [] o
    by_case None = refl
    by_case (Some ys) = refl

first : (read : List Possible) (o : Option Possible) (p : Possible) (rest : Option (List Possible)) → Some p ≡ o
    → behind read (with_two (λ q qs. q ∷ qs) o rest) ≡ behind (read ++ p ∷ []) rest
first read None p rest e = absurd cc
first read (Some q) p None e = refl
first read (Some q) p (Some qs) e =
    let f : p ≡ q = cc in
    ap (λ x. Some (read ++ x ∷ qs)) (sym f) ∙ ap Some (sym (append_assoc read (p ∷ []) qs))

pub read_more : (words rest after : List (List ℕ)) (read now : List Possible) (word : List ℕ) (p : Possible) → ReadBehind words read rest → rest ≡ word ∷ after → Some p ≡ possible_of word
    → now ≡ read ++ p ∷ [] → ReadBehind words now after
read_more words rest after read now word p h e f g =
    h ∙ ap (λ r. behind read (possibles_of r)) e ∙ first read (possible_of word) p (possibles_of after) f ∙ ap (λ x. behind x (possibles_of after)) (sym g)

pub read_off : (words rest after : List (List ℕ)) (read : List Possible) (word : List ℕ) → ReadBehind words read rest → rest ≡ word ∷ after → None ≡ possible_of word → None ≡ possibles_of words
read_off words rest after read word h e f = by_case (possible_of word) f ∙ sym (h ∙ ap (λ r. behind read (possibles_of r)) e)
  where
    by_case : (o : Option Possible) → None ≡ o → None ≡ behind read (with_two (λ q qs. q ∷ qs) o (possibles_of after))
    by_case None e = refl
    by_case (Some q) e = absurd cc

pub read_whole : (words rest : List (List ℕ)) (read : List Possible) → ReadBehind words read rest → rest ≡ [] → Some read ≡ possibles_of words
read_whole words rest read h e = sym (h ∙ ap (λ r. behind read (possibles_of r)) e ∙ ap Some (append-nil read))
