use Rattle.std.proofs.Common.{take}
use Rattle.fc_nodes.specs.Program.{unfolding_of}
use Rattle.topology.specs.Networks.{numbers}
use Rattle.stable_field.specs.Tables.{AreFirings}
use Rattle.stable_field.proofs.rounds.round.Given as goal

abbrev pub invariant-loop-place : goal.invariant-loop-place
invariant-loop-place l = AreFirings (unfolding_of l.program) l.net l.table.items (take l.place (numbers l.net.devices)) l.next.items
