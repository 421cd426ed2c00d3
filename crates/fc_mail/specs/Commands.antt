-- What `mail` makes of the sections of an input: it takes a mail log, and with a number none.
use Rattle.std.specs.Prelude.{ℕ, List, Option, Some, None}
use Rattle.command_frame.specs.Answers.{AnswerValue}
use Rattle.command_frame.specs.Causes.{Judged}
use Rattle.command_frame.specs.Sections.{WithThree, WithTwo}
use Rattle.fc_mail.specs.Drives.{DrivesMail}
use Rattle.fc_mail.specs.Mails.{Mails}

abbrev pub AnswersMail : Option ℕ → List (List ℕ) → Judged AnswerValue → Type 0
AnswersMail None sections j = WithThree Mails sections j
AnswersMail (Some number) sections j = WithTwo (DrivesMail number) sections j
