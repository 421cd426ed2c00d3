use Rattle.std.proofs.Common.{ℕ, ◌<◌, ◌≤◌, ◌-◌}
use Rattle.fc_nodes.specs.Program.{unfolding_of}
use Rattle.bound_rounds.specs.declared.rounds.RoundKind.TheVariants as kind
use Rattle.bound_rounds.specs.Rounds.{BoundTable, grown_within, IsFullWithin}
use Rattle.bound_rounds.specs.Tables.{Stand, IsReady}
use Rattle.settle_rounds.proofs.starts.grow.Given as goal

abbrev pub invariant-loop-table : goal.invariant-loop-table
invariant-loop-table l = record {
  ready : IsReady kind.Growing (unfolding_of l.program) l.envelope l.table;
  stands : (t : BoundTable) → Stand (unfolding_of l.program) l.envelope t l.fn.first.items
      → Stand (unfolding_of l.program) l.envelope (grown_within (unfolding_of l.program) l.envelope t l.rounds)
      l.table.bounds.items;
  before : (t : BoundTable) → Stand (unfolding_of l.program) l.envelope t l.fn.first.items → (i : ℕ) → i < l.rounds
      → IsFullWithin (unfolding_of l.program) l.envelope (grown_within (unfolding_of l.program) l.envelope t i) → ⊥;
  most : l.rounds ≤ l.most;
}

abbrev pub decreases-loop-table : goal.decreases-loop-table
decreases-loop-table l = l.most - l.rounds
