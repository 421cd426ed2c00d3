use Rattle.std.proofs.Common.{ℕ, ◌≡◌, ◌<◌, ◌≤◌, length}
use Rattle.std.proofs.Common.{slice_index_or as get_or}
use Rattle.fc_nodes.specs.Terms.{kept}
use Rattle.firing_core.specs.CoreViews.{IsSameCore, core_of, program_of}
use Rattle.bound_firing.specs.declared.firing.ExportBound.{ExportBound as FlatBound}
use Rattle.bound_firing.specs.ExportReferences.{export_bound_in}
use Rattle.bound_rounds.specs.Tables.{HaveSlots, device_at}
use Rattle.settle_rounds.specs.Within.{FirstWithin}
use Rattle.settle_rounds.proofs.starts.first_bounds.Given as goal

abbrev pub invariant-loop-place : goal.invariant-loop-place
invariant-loop-place l = record {
  same : IsSameCore l.fn.core l.core;
  exports : (core_of l.core).exports ≡ (core_of l.fn.core).exports;
  ahead : (i : ℕ) → l.place ≤ i → i < length l.envelope.devices
      → (core_of l.core).flying (device_at l.envelope i) ≡ (core_of l.fn.core).flying (device_at l.envelope i);
  many : length l.bounds.items ≡ l.place;
  slots : HaveSlots (kept (program_of l.fn.core).main) l.bounds.items;
  first : (i : ℕ) (x : FlatBound) → i < l.place
      → FirstWithin (program_of l.fn.core) l.envelope l.fn.core.net (core_of l.fn.core) (device_at l.envelope i)
      (export_bound_in (program_of l.fn.core) (get_or l.bounds.items i x));
}
