-- The lines that are edits.
use Rattle.std.specs.Prelude.{ℕ, not, if◌then◌else◌, List, [], ◌∷◌, Option, Some, None, option_map, codes}
use Rattle.std.specs.List.{prefix_len}
use Rattle.std.specs.Str.{bytes_eq}
use Rattle.fc_values.specs.Types.{Input}
use Rattle.fc_values.specs.Values.{LocalValue}
use Rattle.topology.specs.Networks.{NetDevice}
use Rattle.edit_commands.specs.declared.edits.EditWord.{EditWord}
use Rattle.edit_commands.specs.declared.edits.EditWord.TheVariants as first
use Rattle.fc_values.specs.Numbers.{number_of}
use Rattle.fc_values.specs.Names.{is_name}
use Rattle.edit_commands.specs.Words.{written_device}
use Rattle.edit_commands.specs.Values.{written_value}

-- an edit as a line says it: a poke has the value and the kept values of an export
pub data EditLine : Type 0 where
  LinkLine : ℕ → ℕ → ℕ → EditLine
  UnlinkLine : ℕ → ℕ → EditLine
  SetLine : ℕ → ℕ → LocalValue → EditLine
  PokeLine : ℕ → LocalValue → List LocalValue → EditLine
  JoinLine : NetDevice → EditLine
  LeaveLine : ℕ → EditLine

-- what is made of two or three things, if all are there
abbrev pub with_two : {A B C : Type 0} → (A → B → C) → Option A → Option B → Option C
with_two f None b = None
with_two f (Some a) b = option_map (f a) b

abbrev pub with_three : {A B C D : Type 0} → (A → B → C → D) → Option A → Option B → Option C → Option D
with_three f None b c = None
with_three f (Some a) b c = with_two (f a) b c

-- the values that words write, if each writes one
abbrev pub values_of : List (List ℕ) → Option (List LocalValue)
values_of [] = Some []
values_of (word ∷ words) = with_two (λ v vs. v ∷ vs) (written_value word) (values_of words)

-- the number of the first input of a name, or the number after the last where no input has it
abbrev pub input_index : List Input → List ℕ → ℕ
input_index is name = prefix_len (λ (i : Input). not (bytes_eq i.name name)) is

-- ---- the words after the first one of a line

abbrev pub link_line : List (List ℕ) → Option EditLine
link_line (a ∷ b ∷ w ∷ []) = with_three LinkLine (number_of a) (number_of b) (number_of w)
link_line words = None

abbrev pub unlink_line : List (List ℕ) → Option EditLine
unlink_line (a ∷ b ∷ []) = with_two UnlinkLine (number_of a) (number_of b)
unlink_line words = None

abbrev pub set_line : List Input → List (List ℕ) → Option EditLine
set_line is (d ∷ name ∷ v ∷ []) =
    if is_name name then with_two (λ n w. SetLine n (input_index is name) w) (number_of d) (written_value v) else None
set_line is words = None

abbrev pub poke_line : List (List ℕ) → Option EditLine
poke_line (d ∷ v ∷ ks) = with_three PokeLine (number_of d) (written_value v) (values_of ks)
poke_line words = None

abbrev pub device_with : ℕ → List LocalValue → NetDevice
device_with d vs = record { id = d; inputs = vs }

abbrev pub join_line : List (List ℕ) → Option EditLine
join_line (d ∷ vs) = with_two (λ n ws. JoinLine (device_with n ws)) (written_device d) (values_of vs)
join_line words = None

abbrev pub leave_line : List (List ℕ) → Option EditLine
leave_line (d ∷ []) = option_map LeaveLine (number_of d)
leave_line words = None

-- what the first word says
abbrev pub edit_word : List ℕ → Option EditWord
edit_word word =
    if bytes_eq word (codes "link") then Some first.Link else
    if bytes_eq word (codes "unlink") then Some first.Unlink else
    if bytes_eq word (codes "set") then Some first.Set else
    if bytes_eq word (codes "poke") then Some first.Poke else
    if bytes_eq word (codes "join") then Some first.Join else
    if bytes_eq word (codes "leave") then Some first.Leave else None

abbrev pub edit_line_by : List Input → Option EditWord → List (List ℕ) → Option EditLine
edit_line_by is None words = None
edit_line_by is (Some first.Link) words = link_line words
edit_line_by is (Some first.Unlink) words = unlink_line words
edit_line_by is (Some first.Set) words = set_line is words
edit_line_by is (Some first.Poke) words = poke_line words
edit_line_by is (Some first.Join) words = join_line words
edit_line_by is (Some first.Leave) words = leave_line words

-- the edit that the words of a line say, in a program with these inputs
abbrev pub edit_line : List Input → List (List ℕ) → Option EditLine
edit_line is [] = None
edit_line is (word ∷ words) = edit_line_by is (edit_word word) words
