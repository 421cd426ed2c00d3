use Rattle.std.proofs.Common.{map, length}
use Rattle.fc_nodes.specs.Program.{unfolding_of}
use Rattle.firing_core.specs.CoreViews.{core_of}
use Rattle.edit_commands.specs.Scripts.{numbered}
use Rattle.edit_commands.specs.ScriptCode.{progress_of}
use Rattle.edit_commands.proofs.ReadScripts.{IsReadTo}
use Rattle.edit_commands.proofs.scripts.read_lines.Given as goal

abbrev pub invariant-lines : goal.invariant-lines
invariant-lines l = IsReadTo (unfolding_of l.program) (core_of l.core) l.text (progress_of l.progress) l.number l.rest (map numbered l.commands.items)

abbrev pub decreases-lines : goal.decreases-lines
decreases-lines l = length l.rest
