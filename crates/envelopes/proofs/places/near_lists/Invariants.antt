use Rattle.std.proofs.Common.{◌≡◌, map, take}
use Rattle.envelopes.specs.Envelopes.{ids}
use Rattle.envelopes.specs.Code.{maybe_device_of, maybe_link_of, near_each, neighbours_of}
use Rattle.envelopes.proofs.places.near_lists.Given as goal

abbrev pub invariant-loop-link : goal.invariant-loop-link
invariant-loop-link l = map neighbours_of l.near.items
    ≡ near_each (ids (map maybe_device_of l.devices)) (map maybe_link_of (take l.link-index l.links))
