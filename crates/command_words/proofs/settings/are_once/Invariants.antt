use Rattle.std.proofs.Common.{◌≡◌, length}
use Rattle.command_words.specs.Settings.{are_once}
use Rattle.command_words.proofs.settings.are_once.Given as goal

abbrev pub invariant-rest : goal.invariant-rest
invariant-rest l = are_once l.rest ≡ are_once l.fn.settings

abbrev pub decreases-rest : goal.decreases-rest
decreases-rest l = length l.rest
