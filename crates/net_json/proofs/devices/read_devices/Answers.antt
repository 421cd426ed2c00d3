use Rattle.std.proofs.Common.{◌≡◌, ◌∙◌, sym, ap, subst, map, arith, length, List, IfOk, IfErr}
use Rattle.std.proofs.lemmas.Bool.{eqb-false}
use Rattle.serde_json.specs.View.{items_view}
use Rattle.fc_values.specs.Types.{Input, input_of}
use Rattle.topology.specs.Networks.{net_device_of}
use Rattle.net_json.specs.PlaceCode.{path_of}
use Rattle.net_json.specs.Judging.{Accepted, Refused, Misshaped, TooManyDevices, RefusedWith, gather}
use Rattle.net_json.specs.Reading.{count_items}
use Rattle.net_json.specs.Devices.{device_judged, number_of_device}
use Rattle.net_json.proofs.Shapes.{count_values}
use Rattle.net_json.proofs.Limits.{within, beyond}
use Rattle.net_json.proofs.devices.read_devices.Goals as goal

pub returns-then-items-gt-MOST_DEVICES-clause-refused : goal.returns-then-items-gt-MOST_DEVICES-clause-refused
returns-then-items-gt-MOST_DEVICES-clause-refused c =
    beyond (Misshaped (path_of c.args.here.now)) (TooManyDevices (count_items (items_view c.args.items.now))) (gather number_of_device (device_judged (map input_of c.args.inputs.now)) (path_of c.args.here.now) (items_view c.args.items.now))
    (count_items (items_view c.args.items.now)) (length c.args.items.now) (count_values c.args.items.now) c.if-items-gt-MOST_DEVICES.true
    ∙ ap (λ n. Refused (TooManyDevices n)) (count_values c.args.items.now)

pub returns-clause-ok : goal.returns-clause-ok
returns-clause-ok c =
    let u = eqb-false (length c.args.items.now) 0 (sym c.if-is_empty.ensures) in
    subst (λ j. IfOk c.gather.result (λ ds. j ≡ Accepted (map net_device_of ds.items)))
    (ap (λ (is : List Input). gather number_of_device (device_judged is) (path_of c.args.here.now) (items_view c.args.items.now)) (c.deref.ensures.value ∙ c.in_ok-wanted.ensures)
    ∙ sym (within (Misshaped (path_of c.args.here.now)) (TooManyDevices (count_items (items_view c.args.items.now))) (gather number_of_device (device_judged (map input_of c.args.inputs.now)) (path_of c.args.here.now) (items_view c.args.items.now))
    (count_items (items_view c.args.items.now)) (length c.args.items.now) (count_values c.args.items.now) (omega (arith, u)) c.if-items-gt-MOST_DEVICES.false))
    c.gather.ensures.ok

pub returns-clause-refused : goal.returns-clause-refused
returns-clause-refused c =
    let u = eqb-false (length c.args.items.now) 0 (sym c.if-is_empty.ensures) in
    subst (λ j. IfErr c.gather.result (RefusedWith j))
    (ap (λ (is : List Input). gather number_of_device (device_judged is) (path_of c.args.here.now) (items_view c.args.items.now)) (c.deref.ensures.value ∙ c.in_ok-wanted.ensures)
    ∙ sym (within (Misshaped (path_of c.args.here.now)) (TooManyDevices (count_items (items_view c.args.items.now))) (gather number_of_device (device_judged (map input_of c.args.inputs.now)) (path_of c.args.here.now) (items_view c.args.items.now))
    (count_items (items_view c.args.items.now)) (length c.args.items.now) (count_values c.args.items.now) (omega (arith, u)) c.if-items-gt-MOST_DEVICES.false))
    c.gather.ensures.refused
