use Rattle.std.proofs.Common.{ℕ, suc, ◌≡◌, ◌<◌, ◌≤◌, ◌-◌, length}
use Rattle.fc_nodes.specs.Program.{unfolding_of}
use Rattle.bound_rounds.specs.declared.rounds.RoundKind.TheVariants as kind
use Rattle.bound_rounds.specs.Rounds.{BoundTable, rounds_within, IsFixedWithin}
use Rattle.bound_rounds.specs.Tables.{IsReady, Stand}
use Rattle.last_bounds.specs.References.{AllChanges}
use Rattle.last_bounds.proofs.ends.rounds_to_end.Given as goal

abbrev pub invariant-loop-rounds : goal.invariant-loop-rounds
invariant-loop-rounds l = record {
  ready : IsReady kind.Firing (unfolding_of l.program) l.envelope l.table;
  many : length l.changes ≡ length l.envelope.devices;
  most : l.rounds ≤ l.cap;
  after : (start : BoundTable) → Stand (unfolding_of l.program) l.envelope start l.fn.table.bounds.items
      → Stand (unfolding_of l.program) l.envelope (rounds_within (unfolding_of l.program) l.envelope start l.rounds)
      l.table.bounds.items;
  changes : (start : BoundTable) → Stand (unfolding_of l.program) l.envelope start l.fn.table.bounds.items
      → AllChanges (unfolding_of l.program) l.envelope start (suc l.rounds) l.changes;
  moves : (start : BoundTable) → Stand (unfolding_of l.program) l.envelope start l.fn.table.bounds.items
      → (i : ℕ) → i < l.rounds → IsFixedWithin kind.Firing (unfolding_of l.program) l.envelope
      (rounds_within (unfolding_of l.program) l.envelope start i) → ⊥;
}

abbrev pub decreases-loop-rounds : goal.decreases-loop-rounds
decreases-loop-rounds l = l.cap - l.rounds
