use Rattle.std.proofs.Common.{◌≡◌, length, All}
use Rattle.fc_nodes.specs.Terms.{kept}
use Rattle.fc_nodes.specs.Program.{unfolding_of}
use Rattle.bound_firing.specs.declared.firing.ExportBound.{ExportBound}
use Rattle.bound_firing.specs.Exports.{any_export}
use Rattle.bound_firing.specs.ExportReferences.{export_bound_in}
use Rattle.settle_rounds.proofs.settling.any_bounds.Given as goal

abbrev pub invariant-loop : goal.invariant-loop
invariant-loop l = record {
  many : length l.bounds.items ≡ l.counter;
  slots : All (λ (e : ExportBound). length e.slots.items ≡ kept (unfolding_of l.program).main) l.bounds.items;
  first : All (λ (e : ExportBound). export_bound_in (unfolding_of l.program) e ≡ any_export (unfolding_of l.program))
      l.bounds.items;
}
