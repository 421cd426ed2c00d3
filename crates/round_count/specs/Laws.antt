-- Laws of rounds: there are logs with any number of them, each log has a greatest number, and entries behind it or in
-- front take none away.
use Rattle.std.specs.Prelude.{ℕ, ◌≡◌, ◌<◌, ◌≤◌, List, ◌++◌, length, false}
use Rattle.fc_nodes.specs.Program.{Program, Unfolding, unfolding_of, IsProgram}
use Rattle.topology.specs.Networks.{numbers}
use Rattle.firing_core.specs.Entries.{EntryValue}
use Rattle.firing_core.specs.Cores.{Core, Run, IsGood}
use Rattle.firing_core.specs.Rounds.{has_edit, after_edit, HasRounds}

-- a log from a core that has so many rounds, and so no edit
pub record SomeRounds (U : Unfolding) (start : Core) (k : ℕ) : Type 0 where
  pub log : List EntryValue
  pub last : Core
  pub runs : Run U start log last
  pub has : HasRounds (numbers start.net.devices) log k

-- from each good core there is one for each number
abbrev pub RoundsCome : Type 0
RoundsCome = (P : Program) (start : Core) (k : ℕ) → IsProgram P → IsGood (unfolding_of P) start
    → SomeRounds (unfolding_of P) start k

-- a log with more behind it, without an edit, has the rounds of its front
abbrev pub RoundsStay : Type 0
RoundsStay = (live : List ℕ) (log more : List EntryValue) (k : ℕ) → has_edit more ≡ false → HasRounds live log k
    → HasRounds live (log ++ more) k

-- a log without an edit that is put in front takes no round away
abbrev pub RoundsFollow : Type 0
RoundsFollow = (live : List ℕ) (front log : List EntryValue) (k : ℕ) → has_edit front ≡ false → HasRounds live log k
    → HasRounds live (front ++ log) k

-- the greatest number of rounds in the part of a log after its last edit
pub record IsGreatest (live : List ℕ) (log : List EntryValue) (k : ℕ) : Type 0 where
  pub has : HasRounds live (after_edit log) k
  pub greatest : (j : ℕ) → HasRounds live (after_edit log) j → j ≤ k

-- where there are devices, each log has such a number
abbrev pub SomeGreatest : Type 0
SomeGreatest = (live : List ℕ) (log : List EntryValue) → 0 < length live → (k : ℕ) × IsGreatest live log k

-- that number doesn't fall with entries behind, where none is an edit, nor with any in front
abbrev pub GreatestStays : Type 0
GreatestStays = (live : List ℕ) (log more : List EntryValue) (j k : ℕ) → has_edit more ≡ false → IsGreatest live log j
    → IsGreatest live (log ++ more) k → j ≤ k

abbrev pub GreatestFollows : Type 0
GreatestFollows = (live : List ℕ) (front log : List EntryValue) (j k : ℕ) → IsGreatest live log j
    → IsGreatest live (front ++ log) k → j ≤ k
