-- Answers in code.
use Rattle.std.specs.Prelude.{option_map}
use Rattle.command_frame.specs.declared.answers.Answer.{Answer}
use Rattle.command_frame.specs.Answers.{AnswerValue}
use Rattle.command_frame.specs.Ledgers.{ledger_of}

-- what an answer in code says, as plain values: a book in code holds exports of the code
abbrev pub value_of : Answer → AnswerValue
value_of a = record {
  status = a.status;
  text = a.text.items;
  book = option_map ledger_of a.book;
  parts = a.parts.items;
}
