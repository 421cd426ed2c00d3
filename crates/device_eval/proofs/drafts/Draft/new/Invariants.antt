use Rattle.std.proofs.Common.{◌≡◌, ◌++◌, drop}
use Rattle.fc_values.specs.Exports.{slots_of}
use Rattle.fc_nodes.specs.Layouts.{blank_slots}
use Rattle.device_eval.proofs.drafts.Draft.new.Given as goal

abbrev pub invariant-loop-blank : goal.invariant-loop-blank
invariant-loop-blank l =
    slots_of l.list.items ++ blank_slots (drop l.blank-index l.blanks) ≡ blank_slots l.layout.blanks
