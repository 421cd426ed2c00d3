-- Lists that are read one thing after another.
use Rattle.std.proofs.Common.{ℕ, ◌≡◌, List, [], ◌∷◌, ◌++◌, map, refl, sym, ap, ◌∙◌, Some, None, append_assoc, append-nil}
use Rattle.std.specs.Prelude.{Option, option_map}
use Rattle.fc_values.specs.Values.{LocalValue}
use Rattle.edit_commands.specs.Values.{written_value}
use Rattle.edit_commands.specs.EditLines.{with_two, values_of}
use Rattle.edit_commands.specs.Narrow.{narrow}

-- what is read after some things that were read
abbrev pub behind : {A : Type 0} → List A → Option (List A) → Option (List A)
behind xs None = None
behind xs (Some ys) = Some (xs ++ ys)

pub behind_none : {A : Type 0} (o : Option (List A)) → o ≡ behind [] o
behind_none None = refl
behind_none (Some ys) = refl

abbrev narrow_values : List (List ℕ) → Option (List LocalValue)
narrow_values words = option_map (map narrow) (values_of words)

abbrev pub ReadBehind : List (List ℕ) → List LocalValue → List (List ℕ) → Type 0
ReadBehind words read rest = option_map (map narrow) (values_of words) ≡ behind read (option_map (map narrow) (values_of rest))

-- one more value
first : (read : List LocalValue) (word : List ℕ) (rest : List (List ℕ)) (v : LocalValue) → Some v ≡ option_map narrow (written_value word)
    → behind read (narrow_values (word ∷ rest)) ≡ behind (read ++ v ∷ []) (narrow_values rest)
first read word rest v e = by_cases (written_value word) (values_of rest) e
  where
    by_cases : (o : Option LocalValue) (p : Option (List LocalValue)) → Some v ≡ option_map narrow o
        → behind read (option_map (map narrow) (with_two (λ v vs. v ∷ vs) o p)) ≡ behind (read ++ v ∷ []) (option_map (map narrow) p)
    by_cases None p e = cc
    by_cases (Some w) None e = refl
    by_cases (Some w) (Some ws) e =
        let f : v ≡ narrow w = cc in
        ap (λ x. Some (read ++ x ∷ map narrow ws)) (sym f) ∙ ap Some (sym (append_assoc read (v ∷ []) (map narrow ws)))

none_first : (read : List LocalValue) (word : List ℕ) (rest : List (List ℕ)) → None ≡ option_map narrow (written_value word) → None ≡ behind read (narrow_values (word ∷ rest))
none_first read word rest e = by_cases (written_value word) e
  where
    by_cases : (o : Option LocalValue) → None ≡ option_map narrow o → None ≡ behind read (option_map (map narrow) (with_two (λ v vs. v ∷ vs) o (values_of rest)))
    by_cases None e = refl
    by_cases (Some w) e = absurd cc

pub read_more : (words rest after : List (List ℕ)) (read now : List LocalValue) (word : List ℕ) (v : LocalValue) → ReadBehind words read rest → rest ≡ word ∷ after → Some v ≡ option_map narrow (written_value word)
    → now ≡ read ++ v ∷ [] → ReadBehind words now after
read_more words rest after read now word v h e f g =
    h ∙ ap (λ r. behind read (narrow_values r)) e ∙ first read word after v f ∙ ap (λ x. behind x (narrow_values after)) (sym g)

pub read_off : (words rest after : List (List ℕ)) (read : List LocalValue) (word : List ℕ) → ReadBehind words read rest → rest ≡ word ∷ after → None ≡ option_map narrow (written_value word)
    → None ≡ option_map (map narrow) (values_of words)
read_off words rest after read word h e f = none_first read word after f ∙ sym (h ∙ ap (λ r. behind read (narrow_values r)) e)

pub read_whole : (words rest : List (List ℕ)) (read : List LocalValue) → ReadBehind words read rest → rest ≡ [] → Some read ≡ option_map (map narrow) (values_of words)
read_whole words rest read h e = sym (h ∙ ap (λ r. behind read (narrow_values r)) e ∙ ap Some (append-nil read))
