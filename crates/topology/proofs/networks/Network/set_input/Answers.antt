use Rattle.std.proofs.Common.{sym, subst, map, arith, vec_capacity}
use Rattle.fc_values.specs.Values.{local_of}
use Rattle.topology.specs.Networks.{edge_of}
use Rattle.topology.specs.Nearby.{IsWritten}
use Rattle.topology.proofs.Devices.{put_length}
use Rattle.topology.proofs.networks.Network.set_input.Goals as goal

pub invariant_of-self-2 : goal.invariant_of-self-2
invariant_of-self-2 c =
    let n = c.self.inside.draft in
    let k = c.self.invariant.room in
    subst (λ v. IsWritten v (map edge_of c.self.inside.links.items) (vec_capacity c.self.inside.links)) (sym c.in_ok-set_input.ensures.ok)
    (record { links = c.self.invariant.links; room = omega (arith, put_length c.args.device c.args.input (local_of c.args.value) n.devices) })
