-- The size of the longest piece that begins a text.
use Rattle.std.specs.Prelude.{ℕ, ◌+◌, ◌==◌, if◌then◌else◌, List, [], ◌∷◌}
use Rattle.std.specs.List.{prefix_len}
use Rattle.fc_lexer.specs.declared.bytes.Class.{Class}
use Rattle.fc_lexer.specs.declared.bytes.Class.TheVariants.{Space, Digit, Letter, Slash, Dot, Equals, Single, Other}
use Rattle.fc_values.specs.Names.{is_digit, is_name_byte}
use Rattle.fc_lexer.specs.Bytes.{is_space, is_in_line, begun_class}

-- of `/` and these bytes
abbrev pub comment_size : List ℕ → ℕ
comment_size [] = 0
comment_size (c ∷ bs) = if c == 47 then prefix_len is_in_line bs + 2 else 0

-- of `.` and these bytes
abbrev pub dots_size : List ℕ → ℕ
dots_size [] = 0
dots_size (c ∷ bs) = if c == 46 then 2 else 0

-- of `=` and these bytes
abbrev pub arrow_size : List ℕ → ℕ
arrow_size [] = 1
arrow_size (c ∷ bs) = if c == 62 then 2 else 1

-- of a byte that begins this, and these bytes
abbrev pub size_as : Class → List ℕ → ℕ
size_as Space bs = prefix_len is_space bs + 1
size_as Digit bs = prefix_len is_digit bs + 1
size_as Letter bs = prefix_len is_name_byte bs + 1
size_as Slash bs = comment_size bs
size_as Dot bs = dots_size bs
size_as Equals bs = arrow_size bs
size_as (Single m) bs = 1
size_as Other bs = 0

-- the size of the longest piece that begins here, or 0
abbrev pub size_of : List ℕ → ℕ
size_of [] = 0
size_of (b ∷ bs) = size_as (begun_class b) bs
