-- What the code of `check --settle` has on the way.
use Rattle.std.specs.Prelude.{ℕ, List, ◌++◌, zip, Option}
use Rattle.fc_values.specs.Values.{LocalValue}
use Rattle.fc_nodes.specs.declared.verdicts.Verdict.{Verdict}
use Rattle.settle_rounds.specs.SettleTimes.{settle_time}
use Rattle.report.specs.Settling.{settling_text}
use Rattle.command_frame.specs.Answers.{AnswerValue, plain}
use Rattle.fc_check.specs.Settles.{settle_status}

-- the answer of a verdict's text, and of what each device settles to
abbrev pub settled_answer : Verdict → List ℕ → List ℕ → List (Option (ℕ × LocalValue)) → AnswerValue
settled_answer v text ds os =
    plain (settle_status (settle_time v os)) (text ++ settling_text (settle_time v os) (zip ds os))
