use Rattle.std.proofs.Common.{List, ◌∙◌, sym, ap}
use Rattle.fc_values.specs.declared.exports.Slot.{Slot}
use Rattle.fc_values.specs.Exports.{slots_of, export_of}
use Rattle.fc_nodes.specs.Program.{unfolding_of}
use Rattle.value_trees.specs.KeptLists.{kept_only}
use Rattle.value_trees.proofs.KeptSlots.{kept_of_slots}
use Rattle.value_trees.proofs.exports.kept.Goals as goal

pub returns : goal.returns
returns c =
    let all = kept_of_slots (unfolding_of c.args.program.now) (export_of c.args.e.now) c.requires in
    c.in_ok-list.ensures ∙ ap (λ (xs : List Slot). kept_only (slots_of xs)) c.deref.ensures.value ∙ sym all
