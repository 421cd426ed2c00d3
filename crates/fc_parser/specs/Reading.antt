-- Reading from the front, as functions on the kinds of tokens: what is read, and the kinds after it.
use Rattle.std.specs.Prelude.{List, ◌++◌, ◌≡◌}
use Rattle.fc_lexer.specs.Kinds.{TokenKind}

-- what a reader says: what it read and the rest, or that nothing is there
pub data Read (A : Type 0) : Type 0 where
  Got : A → List TokenKind → Read A
  Not : Read A

infixl 10 ◌>>=◌
abbrev pub ◌>>=◌ : {A B : Type 0} → Read A → (A → List TokenKind → Read B) → Read B
(Got a rest) >>= f = f a rest
Not >>= f = Not

abbrev pub Reader : Type 0 → Type 0
Reader A = List TokenKind → Read A

-- the kinds are some that satisfy P, and then a rest
pub record Fronts (P : List TokenKind → Type 0) (ts rest : List TokenKind) : Type 0 where
  pub front : List TokenKind
  pub cut : ts ≡ front ++ rest
  pub holds : P front
