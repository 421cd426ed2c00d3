use Rattle.scenarios.proofs.RingLists.{DevicesSoFar}
use Rattle.scenarios.proofs.rings.ring_of.Given as goal

abbrev pub invariant-loop-id : goal.invariant-loop-id
invariant-loop-id l = DevicesSoFar l.source l.count l.id l.devices.items
