-- What commands are, and the limits of their numbers.
use Rattle.std.specs.Prelude.{ℕ, Bool, true, false, ◌≤◌, nat_lt, if◌then◌else◌, List, codes, Option, Some, None}
use Rattle.std.specs.Option.{option_or}
use Rattle.fc_values.specs.declared.limits.TheConstants.{MOST_SCENARIO_DEVICES, MOST_WORKERS}
use Rattle.command_words.specs.declared.commands.Command.{Command}
use Rattle.command_words.specs.declared.commands.Command.TheVariants as command
use Rattle.command_words.specs.declared.commands.Threaded.{Threaded}
use Rattle.command_words.specs.declared.commands.Work.{Work}
use Rattle.command_words.specs.declared.commands.Work.TheVariants.{Run, Gen}
use Rattle.command_words.specs.declared.commands.Limit.{Limit}
use Rattle.command_words.specs.declared.commands.Limit.TheVariants.{Workers, Devices}
use Rattle.command_words.specs.declared.commands.Start.{Start}
use Rattle.command_words.specs.declared.commands.Start.TheVariants as start

-- from which exports rounds are counted
abbrev pub start_from : Bool → Start
start_from false = start.Any
start_from true = start.Table

-- the same of settle rounds, where they are asked for
abbrev pub start_asked : Bool → Bool → Option Start
start_asked false from_table = None
start_asked true from_table = Some (start_from from_table)

-- work with numbers that words can give it: a scenario has at least 3 devices
abbrev pub IsWork : Work → Type 0
IsWork (Run options) = Unit {0}
IsWork (Gen options) = 3 ≤ options.devices

-- at least one worker does such work
pub record IsThreaded (t : Threaded) : Type 0 where
  pub some : 1 ≤ t.workers
  pub work : IsWork t.work

-- a command with numbers that words can give it
abbrev pub IsCommand : Command → Type 0
IsCommand (command.Quiet quiet) = Unit {0}
IsCommand (command.Threaded threaded) = IsThreaded threaded

-- a limit's name in texts
abbrev pub limit_name : Limit → List ℕ
limit_name Workers = codes "workers"
limit_name Devices = codes "devices"

-- too many workers pass the limit
abbrev pub workers_limit : ℕ → Option (Limit × ℕ)
workers_limit n = if nat_lt MOST_WORKERS n then Some (Workers, n) else None

-- too many devices pass the limit
abbrev pub devices_limit : ℕ → Option (Limit × ℕ)
devices_limit n = if nat_lt MOST_SCENARIO_DEVICES n then Some (Devices, n) else None

-- the limit that a number of some work passes
abbrev pub work_limit : Work → Option (Limit × ℕ)
work_limit (Run options) = None
work_limit (Gen options) = devices_limit options.devices

-- the limit that a command's numbers pass, with the number: workers are looked at before devices
abbrev pub limit_of : Threaded → Option (Limit × ℕ)
limit_of t = option_or (workers_limit t.workers) (work_limit t.work)
