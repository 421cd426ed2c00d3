use Rattle.std.proofs.Common.{◌≡◌, ℕ, length}
use Rattle.std.specs.Vec.Iter.{into_iter_items, into_iter_len}
use Rattle.fc_values.specs.declared.exports.Export.{Export}
use Rattle.firing_core.specs.Starts.{look_up}
use Rattle.firing_core.proofs.Starting.{Filled}
use Rattle.firing_core.proofs.filling.export_slots.Given as goal

abbrev pub invariant-loop-device : goal.invariant-loop-device
invariant-loop-device l = record {
  filled : Filled (λ (e : ℕ × Export). e.0) (λ (e : ℕ × Export). e.1) l.net l.slots.items (into_iter_items l.device-iterator) (look_up (λ (e : ℕ × Export). e.0) (λ (e : ℕ × Export). e.1) l.fn.table.items);
  long : into_iter_len l.device-iterator ≡ length (into_iter_items l.device-iterator);
}
