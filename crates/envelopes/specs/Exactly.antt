-- The envelope of one network.
use Rattle.std.specs.Prelude.{true, map}
use Rattle.topology.specs.Networks.{NetDevice, Edge, Network}
use Rattle.value_bounds.specs.BoundValues.{exactly}
use Rattle.envelopes.specs.Envelopes.{MaybeDevice, MaybeLink, Envelope}

abbrev pub exact_device : NetDevice → MaybeDevice
exact_device n = record { id = n.id; inputs = map exactly n.inputs; sure = true }

abbrev pub exact_link : Edge → MaybeLink
exact_link l = record { a = l.a; b = l.b; least = l.weight; greatest = l.weight; sure = true }

abbrev pub exact_envelope : Network → Envelope
exact_envelope N =
    record { declared = N.declared; devices = map exact_device N.devices; links = map exact_link N.links }
