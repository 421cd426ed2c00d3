use Rattle.std.proofs.Common.{◌≤◌, ◌-◌}
use Rattle.fc_nodes.specs.Program.{unfolding_of}
use Rattle.settle_rounds.specs.References.{IsSettling}
use Rattle.settle_rounds.proofs.settling.settle_over.Given as goal

abbrev pub invariant-loop-rounds : goal.invariant-loop-rounds
invariant-loop-rounds l = record {
  settling : IsSettling (unfolding_of l.program) l.envelope l.fn.start.items l.rounds l.table l.settled.items;
  most : l.rounds ≤ l.cap;
}

abbrev pub decreases-loop-rounds : goal.decreases-loop-rounds
decreases-loop-rounds l = l.cap - l.rounds
