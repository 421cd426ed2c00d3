use Rattle.std.proofs.Common.{length, ap, sym, ◌∙◌}
use Rattle.std.proofs.lemmas.List.{length-map}
use Rattle.fc_values.specs.Exports.{slot_of, export_of}
use Rattle.fc_nodes.specs.Program.{unfolding_of}
use Rattle.value_trees.proofs.WalkSteps.{root_stands, walked_export, export_walked}
use Rattle.value_trees.proofs.walks.well_typed.Goals as goal

pub walk-requires : goal.walk-requires
walk-requires c = root_stands c.args.program.now c.fits_main.ensures.program

pub returns-then-fits_main : goal.returns-then-fits_main
returns-then-fits_main c =
    let U = unfolding_of c.args.program.now in
    let x = export_of c.args.e.now in
    let v = c.fits_main.ensures.value.0 c.if-fits_main.true in
    let n = ap (length {A = _}) c.as_slice-slots.ensures.value ∙ sym (length-map c.args.e.now.slots.list.items slot_of) in
    let w = rw c.as_slice-slots.ensures.value at c.walk.ensures in (
      λ b. walked_export U x v (length c.as_slice-slots.result.now) n c.walk.result w (sym c.ends_with.ensures ∙ b),
      λ h. c.ends_with.ensures ∙ export_walked U x v (length c.as_slice-slots.result.now) n c.walk.result w h,
    )
