use Rattle.std.proofs.Common.{length, take, ◌-◌, ◌≤◌, ◌≡◌}
use Rattle.std.specs.Io.KnownBytes.{Appends}
use Rattle.fc_io.proofs.transfer.write_all.Given as goal

abbrev pub invariant-turns : goal.invariant-turns
invariant-turns g l =
    (l.done ≤ length l.bytes)
    × Appends (g.K.Sink.taken l.initial.out) (g.K.Sink.taken l.out) (take l.done l.bytes)
    × (g.K.Sink.faults l.out ≡ g.K.Sink.faults l.initial.out)
    × (g.K.Sink.room l.out ≡ g.K.Sink.room l.initial.out)

abbrev pub decreases-turns : goal.decreases-turns
decreases-turns g l = length l.bytes - l.done
