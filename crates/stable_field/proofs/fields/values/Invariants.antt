use Rattle.std.proofs.Common.{ℕ, ◌≡◌, map, take}
use Rattle.fc_values.specs.Values.{LocalValue}
use Rattle.fc_values.specs.Fields.{entry_of}
use Rattle.topology.specs.Networks.{numbers}
use Rattle.stable_field.specs.Tables.{AllHave}
use Rattle.stable_field.proofs.fields.values.Given as goal

abbrev pub invariant-loop-place : goal.invariant-loop-place
invariant-loop-place l = record {
  found : (F : ℕ → LocalValue) → AllHave F (numbers l.net.devices) l.table → map entry_of l.list.items ≡ map {B = ℕ × LocalValue} (λ d. (d, F d)) (take l.place (numbers l.net.devices));
}
