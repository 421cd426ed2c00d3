-- The command that the words of a command line ask for.
use Rattle.std.specs.Prelude.{ℕ, ◌≡◌, Bool, true, ◌&&◌, ◌||◌, not, nat_le, is_some, if◌then◌else◌, List, []}
use Rattle.std.specs.Prelude.{◌∷◌, codes, IfSome, Option, Some, None, option_map, option_and_then, unwrap_or}
use Rattle.std.specs.List.{list_all, list_any}
use Rattle.std.specs.Str.{bytes_eq}
use Rattle.command_words.specs.declared.commands.Command.{Command}
use Rattle.command_words.specs.declared.commands.Command.TheVariants as command
use Rattle.command_words.specs.declared.commands.Quiet.TheVariants as quiet
use Rattle.command_words.specs.declared.commands.Work.{Work}
use Rattle.command_words.specs.declared.commands.Work.TheVariants as work
use Rattle.command_words.specs.declared.choices.CommandName.{CommandName}
use Rattle.command_words.specs.declared.choices.CommandName.TheVariants.{Check, Stable, Run, Replay, Format, Gen}
use Rattle.command_words.specs.declared.choices.CommandName.TheVariants.{Trace, Mail}
use Rattle.command_words.specs.declared.settings.Flag.{Flag}
use Rattle.command_words.specs.declared.settings.Flag.TheVariants.{Facts, Settle, FromTable, Changes, Log, Table}
use Rattle.command_words.specs.declared.settings.Flag.TheVariants.{Rounds}
use Rattle.command_words.specs.declared.settings.Kind.{Kind}
use Rattle.command_words.specs.declared.settings.Kind.TheVariants as kind
use Rattle.command_words.specs.declared.settings.Numbered.TheVariants.{Workers, Devices, Number}
use Rattle.command_words.specs.declared.settings.Setting.{Setting}
use Rattle.command_words.specs.declared.settings.Setting.TheVariants as set
use Rattle.command_words.specs.Commands.{IsCommand, start_asked, start_from}
use Rattle.command_words.specs.Settings.{are_once, found, id_of, kind_of, number_in, settings_of}

-- the command that a word names
abbrev pub name_of : List ℕ → Option CommandName
name_of word =
    if bytes_eq word (codes "check") then Some Check else
    if bytes_eq word (codes "stable") then Some Stable else
    if bytes_eq word (codes "run") then Some Run else
    if bytes_eq word (codes "replay") then Some Replay else
    if bytes_eq word (codes "format") then Some Format else
    if bytes_eq word (codes "gen") then Some Gen else
    if bytes_eq word (codes "trace") then Some Trace else
    if bytes_eq word (codes "mail") then Some Mail else None

-- the flags, options and numbers that a command takes
abbrev pub taken : CommandName → List Kind
taken Check = kind.Flag Facts ∷ kind.Flag Settle ∷ kind.Flag FromTable ∷ kind.Flag Changes ∷ []
taken Run = kind.Option Workers ∷ kind.Flag Log ∷ kind.Flag Table ∷ []
taken Replay = kind.Flag Rounds ∷ kind.Flag Table ∷ []
taken Gen = kind.Alone ∷ kind.Option Devices ∷ kind.Option Workers ∷ []
taken Mail = kind.Option Number ∷ []
taken name = []

abbrev pub takes : CommandName → Kind → Bool
takes name kind = list_any (λ k. bytes_eq (id_of k) (id_of kind)) (taken name)

-- workers are at least 1, and devices at least 3
abbrev pub is_enough : Setting → Bool
is_enough (set.Option Workers n) = nat_le 1 n
is_enough (set.Option Devices n) = nat_le 3 n
is_enough setting = true

abbrev pub allows : CommandName → Setting → Bool
allows name setting = takes name (kind_of setting) && is_enough setting

-- the `check` with its flags: `--from-table` and `--changes` stand beside `--settle` only
abbrev pub check_with : Bool → Bool → Bool → Bool → Option Command
check_with facts settle from_table changes =
    if (from_table || changes) && not settle then None
    else (if changes
    then Some (command.Quiet (quiet.Changes (record { facts = facts; start = start_from from_table })))
    else Some (command.Quiet (quiet.Check (record { facts = facts; settle = start_asked settle from_table }))))

-- the command of some work: 4 workers do it, if the words don't say how many
abbrev pub worked_by : Option ℕ → Work → Command
worked_by workers work = command.Threaded (record { workers = unwrap_or workers 4; work = work })

-- the scenario of a number, by 4 workers and on 64 devices, if the words don't say how many
abbrev pub gen_with : Option ℕ → Option ℕ → Option ℕ → Option Command
gen_with number devices workers =
    option_map (λ n. worked_by workers (work.Gen (record { number = n; devices = unwrap_or devices 64 }))) number

-- whether a flag is set, and the number of an option or of one that stands alone, where settings are looked up so
abbrev pub is_set : (Kind → Option Setting) → Flag → Bool
is_set look flag = is_some (look (kind.Flag flag))

abbrev pub number : (Kind → Option Setting) → Kind → Option ℕ
number look kind = option_and_then number_in (look kind)

-- the command with what is set, and the defaults for the rest
abbrev pub command_with : CommandName → (Kind → Option Setting) → Option Command
command_with Check look =
    check_with (is_set look Facts) (is_set look Settle) (is_set look FromTable) (is_set look Changes)
command_with Stable look = Some (command.Quiet quiet.Stable)
command_with Run look =
    Some (worked_by (number look (kind.Option Workers))
    (work.Run (record { log = is_set look Log; table = is_set look Table })))
command_with Replay look =
    Some (command.Quiet (quiet.Replay (record { rounds = is_set look Rounds; table = is_set look Table })))
command_with Format look = Some (command.Quiet quiet.Format)
command_with Gen look =
    gen_with (number look kind.Alone) (number look (kind.Option Devices)) (number look (kind.Option Workers))
command_with Trace look = Some (command.Quiet quiet.Trace)
command_with Mail look = Some (command.Quiet (quiet.Mail (record { number = number look (kind.Option Number) })))

-- calls that look settings up so
abbrev pub Finds : (Kind → Option Setting → Type 0) → (Kind → Option Setting) → Type 0
Finds Call look = (kind : Kind) (s : Option Setting) → Call kind s → s ≡ look kind

-- the command of a name with its settings, if it takes each of them and nothing is set twice
abbrev pub command_from : CommandName → List Setting → Option Command
command_from name settings =
    if list_all (allows name) settings && are_once settings then command_with name (λ kind. found kind settings)
    else None

abbrev pub asked : Option CommandName → Option (List Setting) → Option Command
asked (Some name) (Some settings) = command_from name settings
asked (Some name) None = None
asked None settings = None

-- the command that the words ask for: the first word is the program's name and is ignored, the second names the
-- command, and each further one sets something that this command takes. None where the words ask for none
abbrev pub command_of : List (List ℕ) → Option Command
command_of [] = None
command_of (program ∷ []) = None
command_of (program ∷ name ∷ words) = asked (name_of name) (settings_of words)

-- what words ask for is a command
abbrev pub WordsAskForCommands : Type 0
WordsAskForCommands = (words : List (List ℕ)) → IfSome (command_of words) IsCommand
