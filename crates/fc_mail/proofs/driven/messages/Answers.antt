use Rattle.std.proofs.Common.{◌≤◌, ◌+◌, ◌*◌, length, ap, arith}
use Rattle.std.proofs.Math.Nat.{mul-le-mul_left}
use Rattle.std.proofs.lemmas.List.{length-map}
use Rattle.topology.specs.Networks.{NetDevice, Edge, net_device_of, edge_of}
use Rattle.fc_mail.proofs.Links.{few_links}
use Rattle.fc_mail.proofs.driven.messages.Goals as goal

pub overflow_mul-result-2 : goal.overflow_mul-result-2
overflow_mul-result-2 c =
    let l = few_links c.args.net.now c.links.ensures.network in
    let f = c.links.ensures.network.few in
    let a = length-map c.devices.result.now net_device_of in
    let b = length-map c.links.result.now edge_of in
    let d = ap (length {A = NetDevice}) c.devices.ensures.value in
    let e = ap (length {A = Edge}) c.links.ensures.value in
    let small : length c.devices.result.now + 2 * length c.links.result.now ≤ 33792 = omega arith in
    let product = mul-le-mul_left c.args.rounds small in
    omega (arith, product, c.requires)
