-- Laws of logs with edits.
use Rattle.std.specs.Prelude.{ℕ, ◌≡◌, ◌↔◌, List, false}
use Rattle.fc_nodes.specs.Program.{Unfolding}
use Rattle.topology.specs.Networks.{Network, numbers}
use Rattle.firing_core.specs.Entries.{EntryValue}
use Rattle.firing_core.specs.Cores.{Core, Run}
use Rattle.firing_core.specs.Rounds.{has_edit, HasRounds}
use Rattle.net_moves.specs.Moves.{net_after, HasRoundsThere}

-- a run leads to the network after its log
abbrev pub RunsMove : Type 0
RunsMove =
    (U : Unfolding) (c last : Core) (log : List EntryValue) → Run U c log last → last.net ≡ net_after c.net log

-- where nothing is edited both kinds of rounds are the same
abbrev pub PlainRoundsAre : Type 0
PlainRoundsAre = (n : Network) (log : List EntryValue) (m : ℕ) → has_edit log ≡ false
    → (HasRounds (numbers n.devices) log m ↔ HasRoundsThere n log m)
