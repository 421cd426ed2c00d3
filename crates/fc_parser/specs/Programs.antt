-- A text's tokens as a program: they are cut into declarations, which have an order.
use Rattle.std.specs.Prelude.{◌≡◌, Bool, true, false, if◌then◌else◌, List, [], ◌∷◌, map, Option, Some, None}
use Rattle.fc_lexer.specs.declared.tokens.Mark.TheVariants as mark
use Rattle.fc_lexer.specs.Kinds.{TokenKind, MarkOf, TokenView}
use Rattle.fc_lexer.specs.Apart.{view_kind}
use Rattle.fc_syntax.specs.Terms.{Declaration, LanguageIs, CeilingIs, InputIs, MetricIs, DefIs, MainIs}
use Rattle.fc_parser.specs.Grammar.{DeclarationIs}

-- the kinds of tokens, in order
abbrev pub kinds : List TokenView → List TokenKind
kinds ts = map view_kind ts

-- the token is a `;`
abbrev pub is_semi : TokenKind → Bool
is_semi (MarkOf mark.Semi) = true
is_semi _ = false

-- one more token before the first piece
abbrev pub onto_piece : TokenView → List (List TokenView) → List (List TokenView)
onto_piece t [] = (t ∷ []) ∷ []
onto_piece t (piece ∷ more) = (t ∷ piece) ∷ more

-- The tokens of each declaration: the text is cut after each `;`, and tokens after the last one are one more
-- declaration.
abbrev pub pieces : List TokenView → List (List TokenView)
pieces [] = []
pieces (t ∷ ts) = if is_semi t.kind then (t ∷ []) ∷ pieces ts else onto_piece t (pieces ts)

-- where a declaration stands: first, after `language 2;`, after the ceiling (in language 2 or not), or after `main`
pub data Place : Type 0 where
  First : Place
  AfterLanguage : Place
  AfterCeiling : Bool → Place
  AfterMain : Bool → Place

-- whether the declaration at a place is one of language 2
abbrev pub is_second : Place → Bool
is_second First = false
is_second AfterLanguage = true
is_second (AfterCeiling second) = second
is_second (AfterMain second) = second

-- the place after a declaration, where it may stand at its place
abbrev pub next_place : Place → Declaration → Option Place
next_place First (LanguageIs n) = Some AfterLanguage
next_place First (CeilingIs n) = Some (AfterCeiling false)
next_place AfterLanguage (CeilingIs n) = Some (AfterCeiling true)
next_place (AfterCeiling second) (InputIs x t) = Some (AfterCeiling second)
next_place (AfterCeiling second) (MetricIs least greatest) = Some (AfterCeiling second)
next_place (AfterCeiling second) (DefIs f params result body) = Some (AfterCeiling second)
next_place (AfterCeiling second) (MainIs e) = Some (AfterMain second)
next_place _ _ = None

-- the piece spells this declaration, which may stand at this place and leads to that one
pub record Stands (place : Place) (piece : List TokenView) (d : Declaration) (after : Place) : Type 0 where
  pub spells : DeclarationIs (is_second place) (kinds piece) d
  pub order : next_place place d ≡ Some after

-- from this place on, the pieces spell these declarations, and `main` ends them
pub data Follow : Place → List (List TokenView) → List Declaration → Type 0 where
  ended : (second : Bool) → Follow (AfterMain second) [] []
  then : (place after : Place) (piece : List TokenView) (more : List (List TokenView)) (d : Declaration)
      (ds : List Declaration)
      → Stands place piece d after → Follow after more ds → Follow place (piece ∷ more) (d ∷ ds)

-- the tokens derive this program
abbrev pub Derives : List TokenView → List Declaration → Type 0
Derives tokens ds = Follow First (pieces tokens) ds
