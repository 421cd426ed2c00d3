use Rattle.std.proofs.Common.{◌∙◌, ap, refl, map}
use Rattle.fc_values.specs.Values.{local_of}
use Rattle.fc_values.specs.Exports.{export_of}
use Rattle.fc_nodes.specs.Program.{unfolding_of}
use Rattle.firing_core.specs.CoreViews.{near_view}
use Rattle.firing_core.proofs.Borrowed.{read_value}
use Rattle.firing_core.proofs.SnapCopies.{same_copy, same_snap}
use Rattle.firing_core.proofs.snaps.copy_snap.Goals as goal

pub returns-clause-same : goal.returns-clause-same
returns-clause-same c =
    same_copy (unfolding_of c.args.program.now) (record { device = c.args.snap.now.device; inputs = c.in_ok-inputs.inputs; own = c.in_ok-own.own; near = c.in_ok-near.near }) c.args.snap.now (record {
      device = refl;
      inputs = c.in_ok-inputs.ensures ∙ ap (map local_of) c.deref.ensures.value;
      own = c.in_ok-own.ensures ∙ read_value export_of c.as_ref.result c.args.snap.now.own c.as_ref.ensures.value;
      near = c.in_ok-near.ensures ∙ ap (map near_view) c.deref-2.ensures.value;
    })

pub returns-clause-snap : goal.returns-clause-snap
returns-clause-snap c =
    same_snap (unfolding_of c.args.program.now) (record { device = c.args.snap.now.device; inputs = c.in_ok-inputs.inputs; own = c.in_ok-own.own; near = c.in_ok-near.near }) c.args.snap.now (record {
      device = refl;
      inputs = c.in_ok-inputs.ensures ∙ ap (map local_of) c.deref.ensures.value;
      own = c.in_ok-own.ensures ∙ read_value export_of c.as_ref.result c.args.snap.now.own c.as_ref.ensures.value;
      near = c.in_ok-near.ensures ∙ ap (map near_view) c.deref-2.ensures.value;
    }) c.requires
