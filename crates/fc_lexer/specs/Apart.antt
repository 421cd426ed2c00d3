-- Pieces that stand side by side without merging.
use Rattle.std.specs.Prelude.{ℕ, suc, ◌≡◌, ◌==◌, true, false, List, [], ◌∷◌, ◌++◌, length, map, Option, Some, None}
use Rattle.fc_lexer.specs.declared.bytes.Class.{Class}
use Rattle.fc_lexer.specs.declared.bytes.Class.TheVariants.{Space, Digit, Letter, Slash, Dot, Equals, Single, Other}
use Rattle.fc_values.specs.Names.{is_digit, is_name_byte}
use Rattle.fc_lexer.specs.Bytes.{is_space, is_in_line, is_rest, begun_class}
use Rattle.fc_lexer.specs.Kinds.{TokenKind, TokenView, token_kind}
use Rattle.fc_lexer.specs.Lexes.{Lexes}

-- what follows doesn't continue a piece of this class that has these bytes after its first
abbrev pub Breaks : Class → List ℕ → List ℕ → Type 0
Breaks class bs [] = Unit {0}
Breaks Space bs (c ∷ rest) = is_space c ≡ false
Breaks Digit bs (c ∷ rest) = is_digit c ≡ false
Breaks Letter bs (c ∷ rest) = is_name_byte c ≡ false
Breaks Slash bs (c ∷ rest) = is_in_line c ≡ false
Breaks Dot bs (c ∷ rest) = Unit {0}
Breaks Equals [] (c ∷ rest) = (c == 62) ≡ false
Breaks Equals (b ∷ bs) (c ∷ rest) = Unit {0}
Breaks (Single m) bs (c ∷ rest) = Unit {0}
Breaks Other bs (c ∷ rest) = ⊥

-- a piece, by its first byte and those that follow it
pub record Piece : Type 0 where
  pub first : ℕ
  pub others : List ℕ

-- the pieces, one after the other
abbrev pub text_of : List Piece → List ℕ
text_of [] = []
text_of (p ∷ ps) = p.first ∷ (p.others ++ text_of ps)

abbrev pub sizes_of : List Piece → List ℕ
sizes_of [] = []
sizes_of (p ∷ ps) = suc (length p.others) ∷ sizes_of ps

-- what the pieces are that are tokens, in order
abbrev pub kind_as : Option TokenKind → List TokenKind
kind_as None = []
kind_as (Some k) = k ∷ []

abbrev pub kinds_of : List Piece → List TokenKind
kinds_of [] = []
kinds_of (p ∷ ps) = kind_as (token_kind (p.first ∷ p.others)) ++ kinds_of ps

abbrev pub view_kind : TokenView → TokenKind
view_kind t = t.kind

-- each is a piece, and what follows doesn't continue it
abbrev pub StandApart : List Piece → Type 0
StandApart [] = Unit {0}
StandApart (p ∷ ps) =
    (is_rest (begun_class p.first) p.others ≡ true) × Breaks (begun_class p.first) p.others (text_of ps) × StandApart ps

-- the text of pieces that stand apart has tokens of their kinds
abbrev pub ReadsBack : Type 0
ReadsBack =
    (ps : List Piece) → StandApart ps → (tokens : List TokenView) × Lexes (text_of ps) tokens
    × (map view_kind tokens ≡ kinds_of ps)
