use Rattle.std.proofs.Common.{ℕ, ◌≡◌, ◌≤◌, length, true}
use Rattle.std.proofs.Common.{slice_index_or as get_or}
use Rattle.fc_nodes.specs.Program.{unfolding_of}
use Rattle.bound_rounds.specs.Rounds.{BoundTable}
use Rattle.bound_rounds.specs.Tables.{Stand, FitTable, AreFired}
use Rattle.bound_rounds.proofs.rounds.fire_due.Given as goal

abbrev pub invariant-loop-place : goal.invariant-loop-place
invariant-loop-place l = record {
  bounds : l.table.bounds ≡ l.fn.table.bounds;
  drafts : FitTable (unfolding_of l.program) l.envelope l.table.drafts.items;
  changed : length l.table.changed.items ≡ length l.envelope.devices;
  due : length l.table.due.items ≡ length l.envelope.devices;
  ahead : (i : ℕ) → l.place ≤ i → get_or l.table.due.items i true ≡ get_or l.fn.table.due.items i true;
  fired : (t : BoundTable) → Stand (unfolding_of l.program) l.envelope t l.fn.table.bounds.items
      → AreFired l.kind (unfolding_of l.program) l.envelope t l.table.changed.items l.table.drafts.items l.place;
}
