-- The options of each command, for `clap`, and what it reads of words that ask for a command.
use Rattle.std.specs.Prelude.{ℕ, ◌≡◌, true, List, [], ◌∷◌, map, fold, codes}
use Rattle.std.specs.Prelude.{Option, Some, None, option_and_then, option_map}
use Rattle.clap.specs.Words.{App, Row, Rule, first_of, new_app, new_rule, one_of, with_rule}
use Rattle.clap.specs.Simple.{Shape, on_top}
use Rattle.clap.specs.declared.builder.action.ArgAction.TheVariants.{Set, SetTrue}
use Rattle.command_words.specs.declared.commands.Command.{Command}
use Rattle.fc_values.specs.Numbers.{number_of}
use Rattle.command_words.specs.declared.choices.CommandName.{CommandName}
use Rattle.command_words.specs.declared.settings.Flag.{Flag}
use Rattle.command_words.specs.declared.settings.Kind.{Kind}
use Rattle.command_words.specs.declared.settings.Kind.TheVariants as kind
use Rattle.command_words.specs.declared.settings.Setting.{Setting}
use Rattle.command_words.specs.declared.settings.Setting.TheVariants as set
use Rattle.command_words.specs.Settings.{flag_name, id_of, option_name, settings_of}
use Rattle.command_words.specs.Words.{asked, taken}

abbrev pub flag_rule : List ℕ → Rule
flag_rule name = record (new_rule name) { long = Some name; action = Some SetTrue }

-- an option with a number
abbrev pub number_rule : List ℕ → Rule
number_rule name = record (new_rule name) { long = Some name; action = Some Set }

-- a number that stands alone
abbrev pub alone_rule : List ℕ → Rule
alone_rule name = record (new_rule name) { action = Some Set }

-- what a command can take, by its name
abbrev pub rule_as : Kind → List ℕ → Rule
rule_as (kind.Flag flag) name = flag_rule name
rule_as (kind.Option option) name = number_rule name
rule_as kind.Alone name = alone_rule name

abbrev pub rule_for : Kind → Rule
rule_for kind = rule_as kind (id_of kind)

-- help and version are off
abbrev pub without_help : Shape → Shape
without_help s = record s { disable_help_flag = true; disable_version_flag = true }

-- a command without options, of this name
unfoldable pub plain_app : List ℕ → App
plain_app name = on_top without_help (new_app name)

-- the command of this name, with all that it takes
unfoldable pub options_of : CommandName → List ℕ → App
options_of name word = fold with_rule (plain_app word) (map rule_for (taken name))

-- the command of this name that the words ask for, of which the command's is the first
abbrev pub asked_of : CommandName → List (List ℕ) → Option Command
asked_of name [] = None
asked_of name (word ∷ words) = asked (Some name) (settings_of words)

-- ---- what is read

-- a flag is as `clap` shows it. It shows none that the command doesn't take
abbrev pub IsShown : List ℕ → Flag → Option Setting → Type 0
IsShown text flag None = text ≡ codes "false"
IsShown text flag (Some s) = (text ≡ codes "true") × (s ≡ set.Flag flag)

abbrev pub IsFlag : Option (List ℕ) → Flag → Option Setting → Type 0
IsFlag None flag s = s ≡ None
IsFlag (Some text) flag s = IsShown text flag s

abbrev pub number_at : List ℕ → List Row → Option ℕ
number_at id rows = option_and_then number_of (first_of id rows)

-- the setting of a kind that `clap` has read
abbrev pub IsRead : List Row → Kind → Option Setting → Type 0
IsRead rows (kind.Flag flag) s = IsFlag (one_of (flag_name flag) rows) flag s
IsRead rows (kind.Option option) s = option_map (set.Option option) (number_at (option_name option) rows) ≡ s
IsRead rows kind.Alone s = option_map set.Alone (number_at (codes "alone") rows) ≡ s
