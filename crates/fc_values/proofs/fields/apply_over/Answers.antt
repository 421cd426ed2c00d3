use Rattle.std.proofs.Common.{◌<◌, length, arith, ◌∙◌}
use Rattle.std.proofs.lemmas.List.{length-map}
use Rattle.fc_values.specs.Fields.{devices, entries_of, values_of}
use Rattle.fc_values.specs.Positions.{value_over}
use Rattle.fc_values.proofs.ByPosition.{device_nth, has_at, have_position, step_over, value_over-nth}
use Rattle.fc_values.proofs.fields.apply_over.Goals as goal

pub apply_at-requires-clause-have : goal.apply_at-requires-clause-have
apply_at-requires-clause-have c =
    let in_range : c.loop-position.position < length (devices (entries_of c.args.field.now)) = simp (length-map) (omega arith) in
    have_position (devices (entries_of c.args.field.now)) c.loop-position.position (values_of c.args.args.now) c.requires.over in_range

pub apply_at-requires-clause-has_value : goal.apply_at-requires-clause-has_value
apply_at-requires-clause-has_value c =
    let ds = devices (entries_of c.args.field.now) in
    let xs = values_of c.args.args.now in
    let in_range : c.loop-position.position < length (devices (entries_of c.args.field.now)) = simp (length-map) (omega arith) in
    let at = value_over-nth c.args.builtin c.args.ceiling ds c.loop-position.position xs c.requires.rising c.requires.over in_range in
    rw at at (has_at (value_over c.args.builtin c.args.ceiling xs) ds c.loop-position.position c.requires.has_value in_range)

pub loop-position-preserved : goal.loop-position-preserved
loop-position-preserved c =
    let items = c.args.field.now.entries.items in
    let ds = devices (entries_of c.args.field.now) in
    let xs = values_of c.args.args.now in
    let i = c.loop-position.position in
    let in_range : i < length ds = simp (length-map) (omega arith) in
    let in_items : i < length items = omega arith in
    let at = value_over-nth c.args.builtin c.args.ceiling ds i xs c.requires.rising c.requires.over in_range in
    let item = rw (c.deref-entry-items.ensures.value) at c.entry-item.is in
    step_over (value_over c.args.builtin c.args.ceiling xs) ds i c.loop-position.entries.items c.push.new.self.items _ _
    c.in_ok-push.ensures.items (device_nth items i c.entry-item.result item in_items) (at ∙ c.in_ok-value.ensures) in_range c.loop-position.invariant
