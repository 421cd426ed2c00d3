use Rattle.std.proofs.Common.{length, ◌+◌, ◌-◌, ◌≤◌, ◌≡◌}
use Rattle.std.specs.Io.KnownBytes.{Consumes}
use Rattle.fc_io.proofs.transfer.read_all.Given as goal

abbrev pub invariant-turns : goal.invariant-turns
invariant-turns g l =
    Consumes (g.S.Source.left l.initial.src) (g.S.Source.left l.src) l.bytes.items
    × (length l.bytes.items ≤ l.limit + 1)
    × (g.S.Source.faults l.src ≡ g.S.Source.faults l.initial.src)

abbrev pub decreases-turns : goal.decreases-turns
decreases-turns g l = l.limit + 1 - length l.bytes.items
