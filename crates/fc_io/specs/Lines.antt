-- The lines of a text.
use Rattle.std.specs.Prelude.{ℕ, Bool, ◌+◌, ◌==◌, cond, List, [], ◌∷◌, length}
use Rattle.std.specs.List.{onto_first}
use Rattle.std.specs.Io.BufRead.{strip_last}

-- the lines of a text, each with its line feed, which the last may lack
abbrev pub lines_of : List ℕ → List (List ℕ)
lines_of [] = []
lines_of (b ∷ bs) = cond (b == 10) ((b ∷ []) ∷ lines_of bs) (onto_first b (lines_of bs))

-- a line without its line feed, and without one carriage return before its end
abbrev pub line_text : List ℕ → List ℕ
line_text line = strip_last 13 (strip_last 10 line)

-- how many bytes the first line has, with its line feed
abbrev pub line_size : List ℕ → ℕ
line_size [] = 0
line_size (b ∷ bs) = cond (b == 10) 1 (line_size bs + 1)

-- whether a line has no bytes apart from its end
abbrev pub is_empty : List ℕ → Bool
is_empty line = length (line_text line) == 0
