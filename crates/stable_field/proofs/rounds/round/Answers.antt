use Rattle.std.proofs.Common.{◌<◌, ◌≤◌, ap, subst, arith, add-one, length}
use Rattle.std.proofs.lemmas.List.{length-map}
use Rattle.topology.specs.Networks.{NetDevice, net_device_of, numbers}
use Rattle.stable_field.specs.Tables.{AreFirings}
use Rattle.fc_nodes.specs.Program.{unfolding_of}
use Rattle.stable_field.proofs.Firings.{firings_step, take_whole}
use Rattle.stable_field.proofs.rounds.round.Goals as goal

pub loop-place-preserved : goal.loop-place-preserved
loop-place-preserved c =
    let h : c.loop-place.place < length c.devices-count.result.now = c.loop-place-test.true in
    let m = length-map c.args.net.now.devices (λ (n : NetDevice). n.id) in
    let m' = length-map c.devices-count.result.now net_device_of in
    let v = ap length c.devices-count.ensures.value in
    rw (add-one, c.in_ok-push.ensures.items)
    (firings_step (unfolding_of c.args.program.now) c.args.net.now c.args.table.now.items (numbers c.args.net.now.devices) c.loop-place.place c.loop-place.next.items c.in_ok-export.export (omega (arith, h, m, m', v)) c.loop-place.invariant
    c.in_ok-export.ensures)

pub returns : goal.returns
returns c =
    let ds = numbers c.args.net.now.devices in
    let m = length-map c.args.net.now.devices (λ (n : NetDevice). n.id) in
    let m' = length-map c.devices-count.result.now net_device_of in
    let v = ap length c.devices-count.ensures.value in
    let h : length c.devices-count.result.now ≤ c.loop-place.place = c.loop-place-test.false in
    subst (λ es. AreFirings (unfolding_of c.args.program.now) c.args.net.now c.args.table.now.items es c.loop-place.next.items) (take_whole ds c.loop-place.place (omega (arith, h, m, m', v))) c.loop-place.invariant
