use Rattle.std.proofs.Common.{◌++◌, List, map, sym, ◌∙◌, ap}
use Rattle.topology.specs.Networks.{NetDevice, net_device_of, numbers}
use Rattle.walks.specs.declared.types.WalkStep.{WalkStep}
use Rattle.walks.specs.Gathering.{added_of, steps_from}
use Rattle.walks.proofs.Gathered.{more_steps, all_steps}
use Rattle.walks.proofs.gathers.all_steps.Goals as goal

pub loop-device-init : goal.loop-device-init
loop-device-init c = ap (λ (xs : List WalkStep). xs ++ steps_from c.args.net.now (added_of c.args.add.now) (numbers (map net_device_of c.args.devices.now))) (sym c.new-steps.ensures.items)

pub loop-device-preserved : goal.loop-device-preserved
loop-device-preserved c =
    more_steps c.args.net.now (added_of c.args.add.now) c.args.devices.now c.loop-device.device-index c.device-item.result
    (steps_from c.args.net.now (added_of c.args.add.now) (numbers (map net_device_of c.args.devices.now))) c.loop-device.steps.items c.push_steps.new.steps.items
    c.loop-device-test.true c.device-item.is c.loop-device.invariant c.in_ok-push_steps.ensures

pub returns : goal.returns
returns c =
    all_steps c.args.net.now (added_of c.args.add.now) c.args.devices.now c.loop-device.device-index
    (steps_from c.args.net.now (added_of c.args.add.now) (numbers (map net_device_of c.args.devices.now))) c.loop-device.steps.items c.loop-device-test.false c.loop-device.invariant
    ∙ ap (λ (ns : List NetDevice). steps_from c.args.net.now (added_of c.args.add.now) (numbers ns)) c.requires.devices
