-- What rounds over message links lead to.
use Rattle.std.specs.Prelude.{ℕ, ◌≡◌, List, length, Some}
use Rattle.fc_values.specs.Values.{LocalValue}
use Rattle.fc_values.specs.Trees.{TreeExport}
use Rattle.fc_nodes.specs.declared.verdicts.Verdict.TheVariants as verdict
use Rattle.fc_nodes.specs.Program.{Program, Unfolding, unfolding_of, IsProgram}
use Rattle.topology.specs.Networks.{Network, Lives, IsNetwork}
use Rattle.fragment_check.specs.Verdicts.{verdict_of}
use Rattle.converge_laws.specs.CoreLevels.{ExportLevel, AtLevel}
use Rattle.converge_laws.specs.Stabilising.{HasOneSolution}
use Rattle.message_links.specs.MailCores.{MailCore, MailEntryValue, MailRun, IsMailStart}
use Rattle.message_links.specs.MailRounds.{posts_of, HasMailRounds}

-- one round raises the level by one: from every mail core on a network from which a log may start, each mail log with k
-- rounds leads k levels up
abbrev pub LevelsOfMailRounds : ExportLevel → Unfolding → Network → Type 0
LevelsOfMailRounds P U N = (k : ℕ) (start last : MailCore) (log : List MailEntryValue) → IsMailStart U start
    → start.core.net ≡ N → MailRun U 0 start log last → HasMailRounds N 0 (posts_of start) log k
    → AtLevel P U N k last.core

-- from every mail core on a network from which a log may start, every mail log with k rounds leads to exports with the
-- values of a field
abbrev pub MailReaches : Unfolding → Network → ℕ → (ℕ → LocalValue) → Type 0
MailReaches U N k F = (start last : MailCore) (log : List MailEntryValue) → IsMailStart U start → start.core.net ≡ N
    → MailRun U 0 start log last → HasMailRounds N 0 (posts_of start) log k
    → (d : ℕ) → Lives N d → (e : TreeExport) × (last.core.exports d ≡ Some e) × (e.value ≡ F d)

-- a program stabilises on a network over message links within k rounds
pub record MailStabilises (U : Unfolding) (N : Network) (k : ℕ) : Type 0 where
  pub one : HasOneSolution U N
  pub reached : MailReaches U N k one.field

-- a yes for so many rounds says so on each network with the program's declarations and so many devices
abbrev pub YesStabilisesMail : Type 0
YesStabilisesMail = (P : Program) (N : Network) (k : ℕ) → IsProgram P → IsNetwork N → N.declared ≡ P.declared
    → verdict_of (unfolding_of P) (length N.devices) ≡ verdict.Yes k → MailStabilises (unfolding_of P) N k
