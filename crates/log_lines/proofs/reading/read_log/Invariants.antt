use Rattle.std.proofs.Common.{◌≡◌, length}
use Rattle.std.specs.Prelude.{zip}
use Rattle.fc_nodes.specs.Program.{unfolding_of}
use Rattle.firing_core.specs.Entries.{entries_of}
use Rattle.log_lines.proofs.ReadLogs.{IsReadTo}
use Rattle.log_lines.proofs.reading.read_log.Given as goal

abbrev pub invariant-lines : goal.invariant-lines
invariant-lines l =
    IsReadTo (unfolding_of l.program) l.net l.text l.after l.number l.rest (zip l.lines.items (entries_of l.entries.items))
    × (length l.lines.items ≡ length l.entries.items)

abbrev pub decreases-lines : goal.decreases-lines
decreases-lines l = length l.rest
