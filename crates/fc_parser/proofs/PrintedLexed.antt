-- The names among a text's tokens are names of the syntax.
use Rattle.std.proofs.Common.{ℕ, ◌+◌, List, [], ◌∷◌, ◌++◌, take, drop, sym, subst, Option, Some, None}
use Rattle.std.proofs.lemmas.List.{drop-drop}
use Rattle.fc_values.specs.Names.{IsName}
use Rattle.fc_lexer.specs.Kinds.{TokenKind, NumberOf, WordOf, NameOf, MarkOf, TokenView, token_kind}
use Rattle.fc_lexer.specs.Lexes.{Cut, Lexes, line_at, token_as, tokens_from}
use Rattle.fc_lexer.proofs.Letters.{IfNamed, named_piece}

-- a name token is a name
abbrev pub IsNamed : TokenKind → Type 0
IsNamed (NumberOf n) = Unit {0}
IsNamed (WordOf w) = Unit {0}
IsNamed (NameOf x) = IsName x
IsNamed (MarkOf m) = Unit {0}

named_kind : (piece : List ℕ) (k : TokenKind) → IfNamed piece (Some k) → IsNamed k
named_kind piece (NumberOf n) h = tt
named_kind piece (WordOf w) h = tt
named_kind piece (NameOf x) h = h.1
named_kind piece (MarkOf m) h = tt

-- the names among tokens are names
abbrev pub AreNamed : List TokenView → Type 0
AreNamed [] = Unit {0}
AreNamed (t ∷ ts) = IsNamed t.kind × AreNamed ts

named_token : (piece : List ℕ) (k : Option TokenKind) (start end line : ℕ) (more : List TokenView) → IfNamed piece k → AreNamed more
    → AreNamed (token_as k start end line ++ more)
named_token piece None start end line more h m = m
named_token piece (Some k) start end line more h m = (named_kind piece k h, m)

named_from : (text : List ℕ) (start : ℕ) (sizes : List ℕ) → Cut (drop start text) sizes [] → AreNamed (tokens_from text start sizes)
named_from text start [] c = tt
named_from text start (n ∷ sizes) c =
    named_token (take n (drop start text)) (token_kind (take n (drop start text))) start (start + n) (line_at text start)
    (tokens_from text (start + n) sizes)
    (named_piece (take n (drop start text)) c.0.piece)
    (named_from text (start + n) sizes (subst (λ l. Cut l sizes []) (drop-drop n start text) c.1))

pub names_lexed : (text : List ℕ) (tokens : List TokenView) → Lexes text tokens → AreNamed tokens
names_lexed text tokens l = subst AreNamed (sym l.tokens_are) (named_from text 0 l.sizes l.pieces)
