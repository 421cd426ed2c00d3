-- The words of a call so far.
use Rattle.std.proofs.Common.{ℕ, ◌≡◌, ◌+◌, ◌≤◌, ◌<◌, List, [], ◌∷◌, ◌++◌, length, take, map, codes}
use Rattle.std.proofs.Common.{sym, ap, subst, ◌∙◌, Bor}
use Rattle.std.proofs.lemmas.List.{map_more, take_all, get_or-map, length-map}
use Rattle.std.specs.Prelude.{get_or}
use Rattle.std.proofs.lemmas.List.Elements.{All-nil, All-more, All-map}
use Rattle.std.specs.List.{All}
use Rattle.std.specs.Str.{IsUtf8}
use Rattle.fc_library.specs.Words.{AreTexts}

-- the first so many pieces stand behind the program's name, and each is a text
pub record AreWords (pieces : List (Bor (List ℕ))) (at : ℕ) (words : List (List ℕ)) : Type 0 where
  pub same : words ≡ codes "fc" ∷ map (λ p. p.now) (take at pieces)
  pub texts : All (λ p. IsUtf8 p.now) (take at pieces)

pub no_word : (pieces : List (Bor (List ℕ))) (words : List (List ℕ)) → words ≡ codes "fc" ∷ [] → AreWords pieces 0 words
no_word pieces words e = record { same = e; texts = All-nil (λ p. IsUtf8 p.now) }

pub one_word : (pieces : List (Bor (List ℕ))) (at : ℕ) (words more : List (List ℕ)) (d : Bor (List ℕ))
    → AreWords pieces at words → at < length pieces → IsUtf8 (get_or pieces at d).now
    → more ≡ words ++ (get_or pieces at d).now ∷ []
    → AreWords pieces (at + 1) more
one_word pieces at words more d a l utf8 e =
    record {
      same = e ∙ ap (λ ws. ws ++ (get_or pieces at d).now ∷ []) a.same
          ∙ ap (λ ws. codes "fc" ∷ ws) (sym (map_more (λ p. p.now) pieces at d l));
      texts = All-more (λ p. IsUtf8 p.now) pieces at d l a.texts utf8;
    }

pub all_words : (pieces : List (Bor (List ℕ))) (at : ℕ) (words : List (List ℕ)) → AreWords pieces at words
    → length pieces ≤ at → words ≡ codes "fc" ∷ map (λ p. p.now) pieces
all_words pieces at words a l = a.same ∙ ap (λ ps. codes "fc" ∷ map (λ p. p.now) ps) (take_all at pieces l)

pub all_texts : (pieces : List (Bor (List ℕ))) (at : ℕ) (words : List (List ℕ)) → AreWords pieces at words
    → length pieces ≤ at → AreTexts (map (λ p. p.now) pieces)
all_texts pieces at words a l =
    All-map IsUtf8 (λ p. p.now) pieces (subst (All (λ p. IsUtf8 p.now)) (take_all at pieces l) a.texts)

pub not_texts : (pieces : List (Bor (List ℕ))) (at : ℕ) (d : Bor (List ℕ)) → at < length pieces
    → ¬ (IsUtf8 (get_or pieces at d).now) → ¬ (AreTexts (map (λ p. p.now) pieces))
not_texts pieces at d l isnt texts =
    isnt (subst IsUtf8 (get_or-map (λ p. p.now) pieces at d d.now l)
    (texts at d.now (subst (λ n. at < n) (sym (length-map pieces (λ p. p.now))) l)))
