-- What settle rounds and settle times from one core promise.
use Rattle.std.specs.Prelude.{ℕ, ◌≡◌, length}
use Rattle.fc_nodes.specs.declared.verdicts.Verdict.TheVariants as verdict
use Rattle.fc_nodes.specs.Program.{Program, Unfolding, unfolding_of, IsProgram}
use Rattle.topology.specs.Networks.{Network, IsNetwork}
use Rattle.firing_core.specs.Cores.{Core, IsGood}
use Rattle.fragment_check.specs.Verdicts.{verdict_of}
use Rattle.bound_rounds.specs.Rounds.{BoundTable}
use Rattle.settle_rounds.specs.Within.{StartTable}
use Rattle.settle_rounds.specs.Starts.{ReachedFrom, growing_cap}
use Rattle.settle_rounds.specs.SettleTimes.{settled_from, IsSettleTime, RoundsLead, ValuesSolve, TimeLeads, TimeIsLow}

-- what `SettlesWell` says, but for the logs from this core alone
pub record SettlesFrom (U : Unfolding) (N : Network) (c : Core) (table : BoundTable) : Type 0 where
  pub rounds : RoundsLead (ReachedFrom U N c) N (settled_from U N table)
  pub solves : (K : ℕ) → verdict_of U (length N.devices) ≡ verdict.Yes K → ValuesSolve U N (settled_from U N table)
  pub time : (R : ℕ) → IsSettleTime U N (settled_from U N table) R
      → TimeLeads (ReachedFrom U N c) U N (settled_from U N table) R
  pub low : (R : ℕ) → IsSettleTime U N (settled_from U N table) R → TimeIsLow U N R

-- from the table of any good core on the network
abbrev pub StartTimesHold : Type 0
StartTimesHold =
    (P : Program) (N : Network) → IsProgram P → IsNetwork N → N.declared ≡ P.declared
    → (c : Core) → IsGood (unfolding_of P) c → c.net ≡ N → (table : BoundTable)
    → StartTable (unfolding_of P) N (growing_cap (length N.devices)) c table → SettlesFrom (unfolding_of P) N c table
