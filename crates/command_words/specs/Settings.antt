-- What the words after the command set.
use Rattle.std.specs.Prelude.{ℕ, Bool, true, ◌&&◌, is_none, is_some, ◌==◌, if◌then◌else◌, List, [], ◌∷◌, codes}
use Rattle.std.specs.Prelude.{Option, Some, None, option_map}
use Rattle.std.specs.List.{find, before_first, after_first}
use Rattle.std.specs.Str.{bytes_eq}
use Rattle.std.specs.Option.{option_or}
use Rattle.fc_values.specs.Numbers.{number_of}
use Rattle.command_words.specs.declared.settings.Flag.{Flag}
use Rattle.command_words.specs.declared.settings.Flag.TheVariants.{Facts, Settle, FromTable, Changes, Log, Table}
use Rattle.command_words.specs.declared.settings.Flag.TheVariants.{Rounds}
use Rattle.command_words.specs.declared.settings.Kind.{Kind}
use Rattle.command_words.specs.declared.settings.Kind.TheVariants as kind
use Rattle.command_words.specs.declared.settings.Setting.{Setting}
use Rattle.command_words.specs.declared.settings.Setting.TheVariants as set
use Rattle.command_words.specs.declared.settings.Numbered.{Numbered}
use Rattle.command_words.specs.declared.settings.Numbered.TheVariants.{Workers, Devices, Number}

abbrev pub flag_name : Flag → List ℕ
flag_name Facts = codes "facts"
flag_name Settle = codes "settle"
flag_name FromTable = codes "from-table"
flag_name Changes = codes "changes"
flag_name Log = codes "log"
flag_name Table = codes "table"
flag_name Rounds = codes "rounds"

abbrev pub option_name : Numbered → List ℕ
option_name Workers = codes "workers"
option_name Devices = codes "devices"
option_name Number = codes "number"

-- the name of what a command can take
abbrev pub id_of : Kind → List ℕ
id_of (kind.Flag flag) = flag_name flag
id_of (kind.Option option) = option_name option
id_of kind.Alone = codes "alone"

-- the word of a name: two hyphens stand before it
abbrev pub hyphened : List ℕ → List ℕ
hyphened name = 45 ∷ 45 ∷ name

-- the flag that a word is
abbrev pub all_flags : List Flag
all_flags = Facts ∷ Settle ∷ FromTable ∷ Changes ∷ Log ∷ Table ∷ Rounds ∷ []

unfoldable pub flag_of : List ℕ → Option Flag
flag_of word = find (λ flag. bytes_eq (hyphened (flag_name flag)) word) all_flags

-- the option that a word names
abbrev pub all_options : List Numbered
all_options = Workers ∷ Devices ∷ Number ∷ []

unfoldable pub option_of : List ℕ → Option Numbered
option_of word = find (λ option. bytes_eq (hyphened (option_name option)) word) all_options

-- an option with its number, if both are there
abbrev pub numbered_setting : Option Numbered → Option ℕ → Option Setting
numbered_setting (Some option) (Some n) = Some (set.Option option n)
numbered_setting (Some option) None = None
numbered_setting None number = None

abbrev pub is_equals : ℕ → Bool
is_equals byte = byte == 61

-- an option with `=` and its number in one word, as `--workers=4`
abbrev pub attached : List ℕ → Option Setting
attached word = numbered_setting (option_of (before_first is_equals word)) (number_of (after_first is_equals word))

-- what one word sets: a flag, an option with its number, or a number that stands alone
abbrev pub setting_of : List ℕ → Option Setting
setting_of word =
    option_or (option_map set.Flag (flag_of word)) (option_or (attached word) (option_map set.Alone (number_of word)))

-- a setting before others, if both are there
abbrev pub before : Option Setting → Option (List Setting) → Option (List Setting)
before (Some s) (Some more) = Some (s ∷ more)
before (Some s) None = None
before None more = None

-- what the words set, from the first to the last: an option that is a whole word has its number in the next word.
-- None where a word sets nothing
abbrev pub settings_of : List (List ℕ) → Option (List Setting)
settings_of [] = Some []
settings_of (word ∷ []) = if is_some (option_of word) then None else before (setting_of word) (Some [])
settings_of (word ∷ next ∷ words) =
    if is_some (option_of word)
    then before (numbered_setting (option_of word) (number_of next)) (settings_of words)
    else before (setting_of word) (settings_of (next ∷ words))

-- ---- what is set

abbrev pub kind_of : Setting → Kind
kind_of (set.Flag flag) = kind.Flag flag
kind_of (set.Option option n) = kind.Option option
kind_of (set.Alone n) = kind.Alone

abbrev pub number_in : Setting → Option ℕ
number_in (set.Flag flag) = None
number_in (set.Option option n) = Some n
number_in (set.Alone n) = Some n

-- the first setting of a kind
abbrev pub found : Kind → List Setting → Option Setting
found kind settings = find (λ s. bytes_eq (id_of (kind_of s)) (id_of kind)) settings

-- nothing is set twice
abbrev pub are_once : List Setting → Bool
are_once [] = true
are_once (s ∷ more) = is_none (found (kind_of s) more) && are_once more
