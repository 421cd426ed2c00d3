-- What a token is.
use Rattle.std.specs.Prelude.{ℕ, ◌+◌, ◌-◌, ◌*◌, ◌^◌, min, List, [], ◌∷◌, length, map, Option, Some, None}
use Rattle.std.specs.Option.{option_map_or}
use Rattle.fc_lexer.specs.declared.tokens.Mark.{Mark}
use Rattle.fc_lexer.specs.declared.tokens.Mark.TheVariants as mark
use Rattle.fc_values.specs.declared.names.Word.{Word}
use Rattle.fc_lexer.specs.declared.tokens.Kind.{Kind}
use Rattle.fc_lexer.specs.declared.tokens.Kind.TheVariants as kind
use Rattle.fc_lexer.specs.declared.tokens.Token.{Token}
use Rattle.fc_lexer.specs.declared.bytes.Class.{Class}
use Rattle.fc_lexer.specs.declared.bytes.Class.TheVariants.{Space, Digit, Letter, Slash, Dot, Equals, Single, Other}
use Rattle.fc_lexer.specs.Bytes.{begun_class}
use Rattle.fc_values.specs.Names.{word_of}
use Rattle.fc_lexer.specs.declared.kinds.TheConstants.{CUT}

-- a number, a word, a name by its bytes, or a mark
pub data TokenKind : Type 0 where
  NumberOf : ℕ → TokenKind
  WordOf : Word → TokenKind
  NameOf : List ℕ → TokenKind
  MarkOf : Mark → TokenKind

-- a token: what it is, the index of its first byte, the index after its last byte, and its line
pub record TokenView : Type 0 where
  pub kind : TokenKind
  pub start : ℕ
  pub end : ℕ
  pub line : ℕ

-- what contracts see of the code's tokens
abbrev pub kind_view : Kind → TokenKind
kind_view (kind.Number n) = NumberOf n
kind_view (kind.Word w) = WordOf w
kind_view (kind.Name n) = NameOf n.text.items
kind_view (kind.Mark m) = MarkOf m

abbrev pub token_view : Token → TokenView
token_view t = record { kind = kind_view t.kind; start = t.start; end = t.end; line = t.line }

abbrev pub tokens_of : List Token → List TokenView
tokens_of ts = map token_view ts

-- the number that is written by these decimal digits
abbrev pub written : List ℕ → ℕ
written [] = 0
written (d ∷ ds) = (d - 48) * 10 ^ length ds + written ds

-- a number's value: the lesser of the written number and one past the greatest of a program
abbrev pub number_value : List ℕ → ℕ
number_value ds = min (written ds) CUT

-- letters that spell a reserved word are this word, and any others a name
abbrev pub word_or_name_of : List ℕ → TokenKind
word_or_name_of bs = option_map_or WordOf (word_of bs) (NameOf bs)

-- the token that a piece is, if it is one, by what its first byte begins
abbrev pub token_kind_as : Class → List ℕ → List ℕ → Option TokenKind
token_kind_as Space bs rest = None
token_kind_as Digit bs rest = Some (NumberOf (number_value bs))
token_kind_as Letter bs rest = Some (word_or_name_of bs)
token_kind_as Slash bs rest = None
token_kind_as Dot bs rest = Some (MarkOf mark.Dots)
token_kind_as Equals bs [] = Some (MarkOf mark.Is)
token_kind_as Equals bs (c ∷ rest) = Some (MarkOf mark.Arrow)
token_kind_as (Single m) bs rest = Some (MarkOf m)
token_kind_as Other bs rest = None

-- what a piece is, where it is a token: runs of spaces and comments are none
abbrev pub token_kind : List ℕ → Option TokenKind
token_kind [] = None
token_kind (b ∷ bs) = token_kind_as (begun_class b) (b ∷ bs) bs
