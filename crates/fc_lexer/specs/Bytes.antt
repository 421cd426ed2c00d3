-- Pieces of a text: tokens, runs of spaces, and comments.
use Rattle.std.specs.Prelude.{ℕ, Bool, true, false, not, ◌&&◌, ◌||◌, ◌==◌, if◌then◌else◌, List, [], ◌∷◌}
use Rattle.std.specs.List.{list_all}
use Rattle.fc_values.specs.Names.{is_digit, is_letter, is_name_byte}
use Rattle.fc_lexer.specs.declared.tokens.Mark.TheVariants as mark
use Rattle.fc_lexer.specs.declared.bytes.Class.{Class}
use Rattle.fc_lexer.specs.declared.bytes.Class.TheVariants.{Space, Digit, Letter, Slash, Dot, Equals, Single, Other}

-- the space, the tab, the line feed and the carriage return
abbrev pub is_space : ℕ → Bool
is_space b = (b == 32) || (b == 9) || (b == 10) || (b == 13)

abbrev pub is_line_feed : ℕ → Bool
is_line_feed b = b == 10

-- what a comment may hold: all but the line feed
abbrev pub is_in_line : ℕ → Bool
is_in_line b = not (b == 10)

-- the marks `(` `)` `{` `}` `,` `;` `:` `+` `-` `*` `<`, each of which is one byte that begins no other piece
unfoldable pub mark_of : ℕ → Class
mark_of b =
    if b == 40 then Single mark.OpenRound else
    if b == 41 then Single mark.CloseRound else
    if b == 123 then Single mark.OpenCurly else
    if b == 125 then Single mark.CloseCurly else
    if b == 44 then Single mark.Comma else
    if b == 59 then Single mark.Semi else
    if b == 58 then Single mark.Colon else
    if b == 43 then Single mark.Plus else
    if b == 45 then Single mark.Minus else
    if b == 42 then Single mark.Star else
    if b == 60 then Single mark.Less else Other

-- what a byte begins: a run of spaces, a number, a name or word, a comment (`/`), the two dots (`.`), `=` or `=>`,
-- another mark, or nothing
unfoldable pub begun_class : ℕ → Class
begun_class b =
    if is_space b then Space else
    if is_digit b then Digit else
    if is_letter b then Letter else
    if b == 47 then Slash else
    if b == 46 then Dot else
    if b == 61 then Equals else mark_of b

-- these bytes after a first byte that begins this are one piece with it
abbrev pub is_rest : Class → List ℕ → Bool
is_rest Space bs = list_all is_space bs
is_rest Digit bs = list_all is_digit bs
is_rest Letter bs = list_all is_name_byte bs
is_rest Slash [] = false
is_rest Slash (c ∷ bs) = (c == 47) && list_all is_in_line bs
is_rest Dot [] = false
is_rest Dot (c ∷ []) = c == 46
is_rest Dot (c ∷ d ∷ bs) = false
is_rest Equals [] = true
is_rest Equals (c ∷ []) = c == 62
is_rest Equals (c ∷ d ∷ bs) = false
is_rest (Single m) [] = true
is_rest (Single m) (c ∷ bs) = false
is_rest Other bs = false

-- the bytes are one token, run of spaces or comment
abbrev pub is_piece : List ℕ → Bool
is_piece [] = false
is_piece (b ∷ bs) = is_rest (begun_class b) bs
