-- The lines of changes, and what each says.
use Rattle.std.specs.Prelude.{ℕ, ◌+◌, if◌then◌else◌, List, [], ◌∷◌, Option, Some, None, option_map, codes}
use Rattle.std.specs.Str.{bytes_eq}
use Rattle.fc_values.specs.Types.{Input}
use Rattle.fc_values.specs.Names.{is_name}
use Rattle.fc_values.specs.Numbers.{number_of}
use Rattle.fc_io.specs.Lines.{lines_of, line_text, is_empty}
use Rattle.edit_commands.specs.Lines.{words_of}
use Rattle.edit_commands.specs.Words.{written_device}
use Rattle.edit_commands.specs.EditLines.{with_two, with_three, input_index}
use Rattle.changes.specs.Changes.{ChangeValue, SetChange, LinkChange, UnlinkChange, LeaveChange, JoinChange}
use Rattle.change_lines.specs.declared.lines.ChangeWord.{ChangeWord}
use Rattle.change_lines.specs.declared.lines.ChangeWord.TheVariants as first
use Rattle.change_lines.specs.Possibles.{possible_of, possibles_of, weights_of}

-- ---- the words after the first one of a line

abbrev pub set_words : List Input → List (List ℕ) → Option ChangeValue
set_words is (d ∷ name ∷ v ∷ []) =
    if is_name name then with_two (λ n p. SetChange n (input_index is name) p) (number_of d) (possible_of v) else None
set_words is words = None

abbrev pub link_words : List (List ℕ) → Option ChangeValue
link_words (a ∷ b ∷ w ∷ []) = with_three LinkChange (number_of a) (number_of b) (weights_of w)
link_words words = None

abbrev pub unlink_words : List (List ℕ) → Option ChangeValue
unlink_words (a ∷ b ∷ []) = with_two UnlinkChange (number_of a) (number_of b)
unlink_words words = None

abbrev pub leave_words : List (List ℕ) → Option ChangeValue
leave_words (d ∷ []) = option_map LeaveChange (number_of d)
leave_words words = None

abbrev pub join_words : List (List ℕ) → Option ChangeValue
join_words (d ∷ vs) = with_two JoinChange (written_device d) (possibles_of vs)
join_words words = None

-- what the first word says
abbrev pub change_word : List ℕ → Option ChangeWord
change_word word =
    if bytes_eq word (codes "set") then Some first.Set else
    if bytes_eq word (codes "link") then Some first.Link else
    if bytes_eq word (codes "unlink") then Some first.Unlink else
    if bytes_eq word (codes "leave") then Some first.Leave else
    if bytes_eq word (codes "join") then Some first.Join else None

abbrev pub change_by : List Input → Option ChangeWord → List (List ℕ) → Option ChangeValue
change_by is None words = None
change_by is (Some first.Set) words = set_words is words
change_by is (Some first.Link) words = link_words words
change_by is (Some first.Unlink) words = unlink_words words
change_by is (Some first.Leave) words = leave_words words
change_by is (Some first.Join) words = join_words words

-- what the words of a line say, in a program with these inputs; nothing where they have no form of a line
abbrev pub change_of : List Input → List (List ℕ) → Option ChangeValue
change_of is [] = None
change_of is (word ∷ words) = change_by is (change_word word) words

-- ---- the lines of a text

-- what each line says, with its number; empty lines are skipped and counted
abbrev pub changes_from : List Input → ℕ → List (List ℕ) → List (ℕ × Option ChangeValue)
changes_from is k [] = []
changes_from is k (line ∷ lines) =
    if is_empty line then changes_from is (k + 1) lines
    else (k, change_of is (words_of (line_text line))) ∷ changes_from is (k + 1) lines

abbrev pub changes_in : List Input → List ℕ → List (ℕ × Option ChangeValue)
changes_in is text = changes_from is 1 (lines_of text)
