-- Laws of the tokens of a text.
use Rattle.std.specs.Prelude.{ℕ, ◌≡◌, ◌-◌, ◌<◌, ◌≤◌, ◌⊎◌, true, List, [], ◌∷◌, ◌++◌, length, take, drop, Some, None}
use Rattle.fc_lexer.specs.Bytes.{is_piece}
use Rattle.fc_values.specs.Names.{IsName}
use Rattle.fc_lexer.specs.Kinds.{NameOf, TokenView, token_kind}
use Rattle.fc_lexer.specs.Lexes.{Lexes, IsStuckAt, line_at}

-- a text has at most one list of tokens
abbrev pub OneList : Type 0
OneList = (text : List ℕ) (ts us : List TokenView) → Lexes text ts → Lexes text us → ts ≡ us

-- reading stops at one byte at most
abbrev pub OneStop : Type 0
OneStop = (text : List ℕ) (i j : ℕ) → IsStuckAt text i → IsStuckAt text j → i ≡ j

-- a text at which reading stops has no list of tokens
abbrev pub NeverBoth : Type 0
NeverBoth = (text : List ℕ) (i : ℕ) (ts : List TokenView) → IsStuckAt text i → Lexes text ts → ⊥

-- reading stops at a byte of each text that has no list of tokens
abbrev pub AlwaysOne : Type 0
AlwaysOne = (text : List ℕ) → ((ts : List TokenView) × Lexes text ts) ⊎ ((i : ℕ) × IsStuckAt text i)

-- the bytes are runs of spaces and comments, one after the other
pub data Blank : List ℕ → Type 0 where
  none : Blank []
  more : (piece rest : List ℕ) → is_piece piece ≡ true → token_kind piece ≡ None → Blank rest → Blank (piece ++ rest)

-- the bytes from an index to another
abbrev pub between : List ℕ → ℕ → ℕ → List ℕ
between text least most = take (most - least) (drop least text)

-- from an index on there are these tokens, one after the other, none of them empty, each of its bytes and line; between
-- them, and after the last, stand spaces and comments alone
abbrev pub StandFrom : List ℕ → ℕ → List TokenView → Type 0
StandFrom text least [] = (least ≤ length text) × Blank (between text least (length text))
StandFrom text least (t ∷ ts) =
    (least ≤ t.start) × Blank (between text least t.start) × (t.start < t.end)
    × (token_kind (between text t.start t.end) ≡ Some t.kind) × (t.line ≡ line_at text t.start)
    × StandFrom text t.end ts

-- so stand the tokens of a text
abbrev pub SpansRise : Type 0
SpansRise = (text : List ℕ) (ts : List TokenView) → Lexes text ts → StandFrom text 0 ts

-- the bytes of a name are one piece, which is the token of this name
abbrev pub NamesAreTokens : Type 0
NamesAreTokens = (word : List ℕ) → IsName word → (is_piece word ≡ true) × (token_kind word ≡ Some (NameOf word))

-- a piece that is the token of a name is this name
abbrev pub TokensAreNames : Type 0
TokensAreNames =
    (piece name : List ℕ) → is_piece piece ≡ true → token_kind piece ≡ Some (NameOf name) → (name ≡ piece)
    × IsName name
