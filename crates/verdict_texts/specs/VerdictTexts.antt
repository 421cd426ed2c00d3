-- What is written of a program for so many devices: the verdict, and after a yes the facts of each node, where they are
-- asked for.
use Rattle.std.specs.Prelude.{ℕ, Bool, true, false, List, [], ◌++◌}
use Rattle.fc_nodes.specs.Program.{Unfolding}
use Rattle.fc_nodes.specs.declared.verdicts.Verdict.{Verdict}
use Rattle.fc_nodes.specs.declared.verdicts.Verdict.TheVariants as verdict
use Rattle.interval_facts.specs.Ranges.{ranges_of}
use Rattle.fragment_check.specs.Verdicts.{levels_of, verdict_of}
use Rattle.report.specs.Facts.{facts_text}
use Rattle.report.specs.Verdicts.{verdict_text}

-- the lines of facts, after a yes and where they are asked for
abbrev pub facts_behind : Bool → Verdict → List ℕ → List ℕ
facts_behind true (verdict.Yes rounds) text = text
facts_behind true (verdict.No place why) text = []
facts_behind false v text = []

-- what is written of a program for so many devices
abbrev pub checked_text : Bool → Unfolding → ℕ → List ℕ
checked_text facts U n =
    verdict_text (verdict_of U n)
    ++ facts_behind facts (verdict_of U n) (facts_text U (ranges_of U) (levels_of U n))
