-- Logs that stay within an envelope, and their rounds.
use Rattle.std.specs.Prelude.{ℕ, List}
use Rattle.topology.specs.Networks.{Network}
use Rattle.firing_core.specs.Entries.{EntryValue}
use Rattle.net_moves.specs.Moves.{CoversAmong, HasRoundsAmong, Stays}
use Rattle.envelopes.specs.Envelopes.{Envelope, ids, LiesWithin}

-- the network, and the one after each entry of a log, lies within the envelope, and no entry pokes
abbrev pub StaysWithin : Envelope → Network → List EntryValue → Type 0
StaysWithin E n log = Stays (LiesWithin E) n log

-- a stretch of a log in which each device of the envelope fires, or isn't there at some moment
abbrev pub CoversWithin : Envelope → Network → List EntryValue → Type 0
CoversWithin E n part = CoversAmong (ids E.devices) n part

-- a log that splits into k such stretches and a rest
abbrev pub HasRoundsWithin : Envelope → Network → List EntryValue → ℕ → Type 0
HasRoundsWithin E n log k = HasRoundsAmong (ids E.devices) n log k
