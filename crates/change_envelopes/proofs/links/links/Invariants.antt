use Rattle.std.proofs.Common.{◌≡◌, ◌++◌, map}
use Rattle.envelopes.specs.Code.{maybe_link_of}
use Rattle.change_envelopes.specs.Written.{links_by, stays_by}
use Rattle.change_envelopes.proofs.links.links.Given as goal

-- the links of the pairs that are left are those that are still to come
abbrev pub invariant-loop-pair : goal.invariant-loop-pair
invariant-loop-pair l =
    map maybe_link_of l.links.items ++ links_by (stays_by l.devices) l.pair-iterator ≡ links_by (stays_by l.devices) l.pairs.entries
