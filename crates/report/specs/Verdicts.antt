-- The texts of verdicts and of counted rounds.
use Rattle.std.specs.Prelude.{ℕ, List, ◌++◌, codes}
use Rattle.std.specs.Fmt.{decimal}
use Rattle.fc_nodes.specs.declared.verdicts.Reason.{Reason}
use Rattle.fc_nodes.specs.declared.verdicts.Reason.TheVariants as reason
use Rattle.fc_nodes.specs.declared.verdicts.Verdict.{Verdict}
use Rattle.fc_nodes.specs.declared.verdicts.Verdict.TheVariants as verdict

abbrev pub reason_word : Reason → List ℕ
reason_word reason.Converging = codes "converging"
reason_word reason.Nested = codes "nested"
reason_word reason.Unguarded = codes "unguarded"
reason_word reason.Potential = codes "potential"
reason_word reason.NoGrowth = codes "no-growth"
reason_word reason.GrowthZero = codes "growth-zero"
reason_word reason.LeadAtCeiling = codes "lead-at-ceiling"
reason_word reason.RiseZero = codes "rise-zero"

-- the line of a verdict
abbrev pub verdict_text : Verdict → List ℕ
verdict_text (verdict.Yes rounds) = codes "yes " ++ decimal rounds ++ codes "\n"
verdict_text (verdict.No place why) = codes "no " ++ decimal place ++ codes " " ++ reason_word why ++ codes "\n"

-- the line of a number of rounds
abbrev pub rounds_text : ℕ → List ℕ
rounds_text n = codes "rounds " ++ decimal n ++ codes "\n"
