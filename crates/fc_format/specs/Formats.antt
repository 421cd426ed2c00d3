-- What `format` makes of the text of a program, which it judges by tokens and grammar alone: the canonical text.
use Rattle.std.specs.Prelude.{ℕ, false, ◌≡◌, List}
use Rattle.fc_syntax.specs.Terms.{Declaration}
use Rattle.fc_syntax.specs.Text.{program_text}
use Rattle.fc_values.specs.declared.limits.TheConstants.{MOST_BYTES}
use Rattle.command_frame.specs.Answers.{AnswerValue, plain}
use Rattle.command_frame.specs.Causes.{Judged, judged_map}
use Rattle.command_frame.specs.Owing.{IsZero, Owes}
use Rattle.command_frame.specs.Sections.{AreWithin, WithOne}
use Rattle.command_frame.specs.Sources.{ReadsSource}

pub record Formats (program : List ℕ) (j : Judged AnswerValue) : Type 0 where
  pub judged : Judged (List Declaration)
  pub reads : ReadsSource program judged
  pub prints : j ≡ judged_map (λ ds. plain 0 (program_text ds)) judged

-- `format` owes one section an answer, which promises nothing of a yes
abbrev pub FormatOwes : Type 0
FormatOwes =
    Owes false (AreWithin MOST_BYTES) (λ sections j. WithOne Formats sections j) IsZero (λ sections answer. Unit {0})
