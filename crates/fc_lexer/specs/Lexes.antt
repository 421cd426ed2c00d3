-- The tokens of a text.
use Rattle.std.specs.Prelude.{ℕ, ◌≡◌, ◌+◌, ◌<◌, ◌≤◌, true, false, List, [], ◌∷◌, ◌++◌, length, take, drop, sum, Option}
use Rattle.std.specs.Prelude.{Some, None}
use Rattle.std.specs.List.{count_by}
use Rattle.fc_lexer.specs.declared.tokens.LexFault.{LexFault}
use Rattle.fc_lexer.specs.declared.tokens.LexFault.TheVariants as fault
use Rattle.fc_lexer.specs.Bytes.{is_line_feed, is_piece}
use Rattle.fc_lexer.specs.Kinds.{TokenKind, TokenView, token_kind}

-- the first n bytes are a piece, and no longer prefix is one: the longest piece that begins here
pub record IsLongest (bytes : List ℕ) (n : ℕ) : Type 0 where
  pub within : n ≤ length bytes
  pub piece : is_piece (take n bytes) ≡ true
  pub longest : (m : ℕ) → n < m → m ≤ length bytes → is_piece (take m bytes) ≡ false

-- there is a byte here, and no piece begins at it
abbrev pub IsStuck : List ℕ → Type 0
IsStuck bytes = (0 < length bytes) × ((m : ℕ) → m ≤ length bytes → is_piece (take m bytes) ≡ false)

-- the bytes are pieces of these sizes, one after the other, each the longest that begins there, and then the rest
abbrev pub Cut : List ℕ → List ℕ → List ℕ → Type 0
Cut bytes [] rest = bytes ≡ rest
Cut bytes (n ∷ sizes) rest = IsLongest bytes n × Cut (drop n bytes) sizes rest

-- the line of the byte at an index: 1 plus the number of line feeds before it
abbrev pub line_at : List ℕ → ℕ → ℕ
line_at text start = 1 + count_by is_line_feed (take start text)

-- the token from an index to another, if this is one
abbrev pub token_as : Option TokenKind → ℕ → ℕ → ℕ → List TokenView
token_as None start end line = []
token_as (Some k) start end line = record { kind = k; start = start; end = end; line = line } ∷ []

-- the token that the n bytes from an index on are, where they are one
abbrev pub token_at : List ℕ → ℕ → ℕ → List TokenView
token_at text start n = token_as (token_kind (take n (drop start text))) start (start + n) (line_at text start)

-- the pieces of these sizes, from an index on, that are tokens, in order
abbrev pub tokens_from : List ℕ → ℕ → List ℕ → List TokenView
tokens_from text start [] = []
tokens_from text start (n ∷ sizes) = token_at text start n ++ tokens_from text (start + n) sizes

-- the text is a list of pieces, each the longest that begins there, and those that are tokens are these
pub record Lexes (text : List ℕ) (tokens : List TokenView) : Type 0 where
  pub sizes : List ℕ
  pub pieces : Cut text sizes []
  pub tokens_are : tokens ≡ tokens_from text 0 sizes

-- reading from the front reaches the byte at this index, and nothing begins there
pub record IsStuckAt (text : List ℕ) (i : ℕ) : Type 0 where
  pub sizes : List ℕ
  pub index : sum sizes ≡ i
  pub pieces : Cut text sizes (drop i text)
  pub stuck : IsStuck (drop i text)

-- no other list is one of these tokens, and reading reaches no byte at which nothing begins
abbrev pub IsAlone : List ℕ → List TokenView → Type 0
IsAlone text tokens =
    ((others : List TokenView) → Lexes text others → others ≡ tokens) × ((i : ℕ) → IsStuckAt text i → ⊥)

-- a fault at a byte: reading reaches it, and nothing begins there
abbrev pub Stops : List ℕ → LexFault → Type 0
Stops text fault.Memory = Unit {0}
Stops text (fault.At i) = IsStuckAt text i

-- a fault at a byte: the text has no list of tokens, and reading stops at no other byte
abbrev pub StopsAlone : List ℕ → LexFault → Type 0
StopsAlone text fault.Memory = Unit {0}
StopsAlone text (fault.At i) =
    ((tokens : List TokenView) → Lexes text tokens → ⊥) × ((j : ℕ) → IsStuckAt text j → j ≡ i)
