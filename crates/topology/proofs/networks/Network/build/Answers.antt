use Rattle.std.proofs.Common.{sym, ap, subst, map, [], List}
use Rattle.std.proofs.lemmas.List.{length-map}
use Rattle.fc_values.specs.Types.{declarations_of, input_of}
use Rattle.topology.specs.Networks.{Edge, NetDevice, IsNetwork, net_device_of, edge_of, network_of}
use Rattle.topology.specs.Changes.{HaveInputs}
use Rattle.topology.proofs.Making.{made_network}
use Rattle.topology.proofs.networks.Network.build.Goals as goal

pub from_rising-requires : goal.from_rising-requires
from_rising-requires c =
    let D = declarations_of c.args.declared in
    let ns = map net_device_of c.args.devices.items in
    let made = made_network D ns c.requires.numbers (subst (λ m. HaveInputs m ns) (sym (length-map c.args.declared.inputs.items input_of)) c.requires.inputs) c.requires.fault in
    subst (λ (ls : List Edge). IsNetwork (network_of D (map net_device_of c.in_ok-devices.devices.items) ls)) (sym (ap (map edge_of) c.new.ensures.items))
    (subst (λ (ds : List NetDevice). IsNetwork (network_of D ds [])) (sym c.in_ok-devices.ensures) made)
