-- What the words ask for, and whether it reads the source.
use Rattle.std.specs.Prelude.{ℕ, Bool, true, false, ◌&&◌, is_none, IfSome, Option, Some, None}
use Rattle.command_words.specs.declared.commands.Command.{Command}
use Rattle.command_words.specs.declared.commands.Command.TheVariants as command
use Rattle.command_words.specs.declared.commands.Limit.{Limit}
use Rattle.command_words.specs.declared.commands.Limit.TheVariants.{Workers, Devices}
use Rattle.command_words.specs.declared.commands.Work.{Work}
use Rattle.command_words.specs.declared.commands.Work.TheVariants.{Run, Gen}
use Rattle.command_words.specs.Commands.{IsCommand, limit_of}
use Rattle.command_frame.specs.declared.refusal.Refusal.{Refusal}
use Rattle.command_frame.specs.declared.refusal.Refusal.TheVariants as refusal

-- whether work is done on an input: `gen` has none
abbrev pub takes_input : Work → Bool
takes_input (Run options) = true
takes_input (Gen options) = false

-- the refusal of a number of the words that is past its limit
abbrev pub limit_refusal : Limit → ℕ → Refusal
limit_refusal Workers count = refusal.Workers count
limit_refusal Devices count = refusal.Devices count

-- whether what the words ask for reads the source: a quiet command does, and work on an input within the limits of its
-- numbers
abbrev pub reads_source : Option Command → Bool
reads_source None = false
reads_source (Some (command.Quiet quiet)) = true
reads_source (Some (command.Threaded threaded)) = is_none (limit_of threaded) && takes_input threaded.work

-- what words can ask for
abbrev pub MayAsk : Option Command → Type 0
MayAsk asked = IfSome asked IsCommand
