-- What these bounds hold.
use Rattle.std.specs.Prelude.{Bool, ◌≡◌, ◌⊎◌}
use Rattle.fc_values.specs.Trees.{TreeExport}
use Rattle.fc_nodes.specs.Program.{Unfolding}
use Rattle.fc_nodes.specs.Flat.{IsWellTyped}
use Rattle.bound_firing.specs.Exports.{ExportBound, ExportLies}
use Rattle.export_bounds.specs.Exports.{exact_export, either_export}

-- A well-typed export lies in its bound; what lies in one of two bounds lies in that of either; and it is decidable
-- whether two bounds are the same
pub record BoundsHoldExports (U : Unfolding) : Type 0 where
  pub exact : (sure : Bool) (e : TreeExport) → IsWellTyped U e → ExportLies U (exact_export U sure e) e
  pub first : (b c : ExportBound) (e : TreeExport) → ExportLies U b e → ExportLies U (either_export U b c) e
  pub second : (b c : ExportBound) (e : TreeExport) → ExportLies U c e → ExportLies U (either_export U b c) e
  pub decided : (b c : ExportBound) → (b ≡ c) ⊎ (b ≡ c → ⊥)

abbrev pub ExportsHold : Type 0
ExportsHold = (U : Unfolding) → BoundsHoldExports U
