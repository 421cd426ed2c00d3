-- Texts that are read as runs of pieces, and how runs join.
use Rattle.std.proofs.Common.{ℕ, ◌≡◌, true, false, ◌||◌, ◌==◌, List, [], ◌∷◌, ◌++◌, refl, ap, ◌∙◌, sym, subst, append_assoc, append-nil}
use Rattle.std.specs.List.{list_any}
use Rattle.std.proofs.lemmas.List.Folds.{list_any-append}
use Rattle.fc_values.specs.Names.{is_name_byte}
use Rattle.fc_lexer.specs.Bytes.{is_space, is_rest, begun_class}
use Rattle.fc_lexer.specs.Kinds.{TokenKind, token_kind}
use Rattle.fc_lexer.specs.Apart.{Breaks, Piece, StandApart, kind_as, kinds_of, text_of}
use Rattle.fc_parser.specs.Programs.{is_semi}

-- How a run ends: in letters or digits, in `=`, in a space, or in what nothing goes on with.
pub data End : Type 0 where
  InWord : End
  AtIs : End
  InSpace : End
  Free : End

-- the text begins with no byte that goes on with such an end
abbrev pub Follows : End → List ℕ → Type 0
Follows Free text = Unit {0}
Follows InWord [] = Unit {0}
Follows AtIs [] = Unit {0}
Follows InSpace [] = Unit {0}
Follows InWord (c ∷ rest) = is_name_byte c ≡ false
Follows AtIs (c ∷ rest) = (c == 62) ≡ false
Follows InSpace (c ∷ rest) = is_space c ≡ false

-- and it isn't empty, where that matters
abbrev pub Meets : End → List ℕ → Type 0
Meets Free text = Unit {0}
Meets InWord [] = ⊥
Meets AtIs [] = ⊥
Meets InSpace [] = ⊥
Meets InWord (c ∷ rest) = is_name_byte c ≡ false
Meets AtIs (c ∷ rest) = (c == 62) ≡ false
Meets InSpace (c ∷ rest) = is_space c ≡ false

pub meets_more : (end : End) (text rest : List ℕ) → Meets end text → Meets end (text ++ rest)
meets_more Free text rest h = tt
meets_more InWord [] rest h = absurd h
meets_more AtIs [] rest h = absurd h
meets_more InSpace [] rest h = absurd h
meets_more InWord (c ∷ text) rest h = h
meets_more AtIs (c ∷ text) rest h = h
meets_more InSpace (c ∷ text) rest h = h

pub follows_more : (end : End) (text rest : List ℕ) → Meets end text → Follows end (text ++ rest)
follows_more Free text rest h = tt
follows_more InWord [] rest h = absurd h
follows_more AtIs [] rest h = absurd h
follows_more InSpace [] rest h = absurd h
follows_more InWord (c ∷ text) rest h = h
follows_more AtIs (c ∷ text) rest h = h
follows_more InSpace (c ∷ text) rest h = h

-- The text is one of pieces of these kinds, which stand apart before each text that begins as the end asks.
pub record Run (end : End) (text : List ℕ) (ks : List TokenKind) : Type 0 where
  pub run : List Piece
  pub text_is : text_of run ≡ text
  pub kinds_are : kinds_of run ≡ ks
  pub apart : (rest : List Piece) → Follows end (text_of rest) → StandApart rest → StandApart (run ++ rest)

pub text_join : (ps qs : List Piece) → text_of (ps ++ qs) ≡ text_of ps ++ text_of qs
text_join [] qs = refl
text_join (p ∷ ps) qs = ap (λ l. p.first ∷ (p.others ++ l)) (text_join ps qs) ∙ ap (λ l. p.first ∷ l) (sym (append_assoc p.others (text_of ps) (text_of qs)))

pub kinds_join : (ps qs : List Piece) → kinds_of (ps ++ qs) ≡ kinds_of ps ++ kinds_of qs
kinds_join [] qs = refl
kinds_join (p ∷ ps) qs = ap (λ l. kind_as (token_kind (p.first ∷ p.others)) ++ l) (kinds_join ps qs) ∙ sym (append_assoc (kind_as (token_kind (p.first ∷ p.others))) (kinds_of ps) (kinds_of qs))

-- one run behind another
pub run_join : (e d : End) (a b : List ℕ) (ks ls : List TokenKind) → Run e a ks → Run d b ls → Meets e b → Run d (a ++ b) (ks ++ ls)
run_join e d a b ks ls r s m = record {
  run = r.run ++ s.run;
  text_is = text_join r.run s.run ∙ ap (λ l. l ++ text_of s.run) r.text_is ∙ ap (λ l. a ++ l) s.text_is;
  kinds_are = kinds_join r.run s.run ∙ ap (λ l. l ++ kinds_of s.run) r.kinds_are ∙ ap (λ l. ks ++ l) s.kinds_are;
  apart = both;
}
  where
    text_then : (rest : List Piece) → text_of (s.run ++ rest) ≡ b ++ text_of rest
    text_then rest = text_join s.run rest ∙ ap (λ l. l ++ text_of rest) s.text_is

    both : (rest : List Piece) → Follows d (text_of rest) → StandApart rest → StandApart ((r.run ++ s.run) ++ rest)
    both rest f h =
        subst StandApart (sym (append_assoc r.run s.run rest))
        (r.apart (s.run ++ rest) (subst (Follows e) (sym (text_then rest)) (follows_more e b (text_of rest) m)) (s.apart rest f h))

-- A run of a declaration's inside, where no `;` stands.
pub record Inner (end : End) (text : List ℕ) (ks : List TokenKind) : Type 0 where
  pub run : Run end text ks
  pub no_semi : list_any is_semi ks ≡ false

no_semi_join : (ks ls : List TokenKind) → list_any is_semi ks ≡ false → list_any is_semi ls ≡ false → list_any is_semi (ks ++ ls) ≡ false
no_semi_join ks ls h g = list_any-append is_semi ks ls ∙ ap (λ t. t || list_any is_semi ls) h ∙ g

pub join : {e d : End} {a b : List ℕ} {ks ls : List TokenKind} → Inner e a ks → Inner d b ls → Meets e b → Inner d (a ++ b) (ks ++ ls)
join {e} {d} {a} {b} {ks} {ls} r s m = record { run = run_join e d a b ks ls r.run s.run m; no_semi = no_semi_join ks ls r.no_semi s.no_semi }

-- what follows a word may follow a mark
pub loose : {a : List ℕ} {ks : List TokenKind} → Inner Free a ks → Inner InWord a ks
loose r = record {
  run = record { run = r.run.run; text_is = r.run.text_is; kinds_are = r.run.kinds_are; apart = λ rest f h. r.run.apart rest tt h };
  no_semi = r.no_semi;
}

-- the same run, its text and kinds written otherwise
pub as_is : {e : End} {a b : List ℕ} {ks ls : List TokenKind} → a ≡ b → ks ≡ ls → Inner e a ks → Inner e b ls
as_is {e} {a} {b} {ks} {ls} p q r = subst (λ l. Inner e b l) q (subst (λ l. Inner e l ks) p r)

-- one piece
pub one_piece : (end : End) (first : ℕ) (others : List ℕ) (ks : List TokenKind) → is_rest (begun_class first) others ≡ true
    → ((text : List ℕ) → Follows end text → Breaks (begun_class first) others text) → kind_as (token_kind (first ∷ others)) ≡ ks → Run end (first ∷ others) ks
one_piece end first others ks r b k = record {
  run = record { first = first; others = others } ∷ [];
  text_is = ap (λ l. first ∷ l) (append-nil others);
  kinds_are = append-nil (kind_as (token_kind (first ∷ others))) ∙ k;
  apart = λ rest f h. (r, b (text_of rest) f, h);
}
