use Rattle.std.proofs.Common.{◌∙◌, ap, nat_eq, map, if◌then◌else◌, List}
use Rattle.std.specs.Prelude.{Option, option_map, slice_get}
use Rattle.std.specs.Option.{option_or}
use Rattle.fc_values.specs.declared.values.Local.{Local}
use Rattle.fc_values.specs.Values.{local_of}
use Rattle.value_bounds.specs.BoundValues.{BoundValue, exactly}
use Rattle.change_bounds.specs.Tables.{bound_at}
use Rattle.change_bounds.proofs.Widened.{device_more}
use Rattle.change_bounds.proofs.inputs.scene_inputs.Goals as goal

pub loop-device-preserved : goal.loop-device-preserved
loop-device-preserved c = λ d i.
    let x = c.device-item.result in
    let old = bound_at c.loop-device.table d i in
    c.in_ok-put_inputs.ensures d i
    ∙ ap (λ (vs : List Local). if nat_eq d x.id then option_or (option_map exactly (slice_get (map local_of vs) i)) old else old) c.deref.ensures.value
    ∙ ap (λ (o : Option BoundValue). if nat_eq d x.id then option_or (option_map exactly (slice_get (map local_of x.inputs.items) i)) o else o) (c.loop-device.invariant d i)
    ∙ device_more c.args.network.now c.devices-device-items.result.now c.devices-device-items.ensures.network c.devices-device-items.ensures.value
    c.loop-device.device-index x c.device-item.is c.loop-device-test.true d i
