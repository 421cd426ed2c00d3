use Rattle.std.proofs.Common.{◌∙◌, ap}
use Rattle.command_frame.specs.Answers.{showing}
use Rattle.command_frame.specs.Ledgers.{ledger_of}
use Rattle.fc_run.proofs.Running.{ended_text}
use Rattle.fc_run.proofs.runs.ended.Goals as goal

pub returns : goal.returns
returns c =
    let s = c.args.session in
    c.showing.ensures
    ∙ ap (λ t. showing t (ledger_of s.book) s.parts.items)
    (ended_text c.args.options s c.write_log.new.text.items c.write_table.new.text.items
    c.core-core.ensures.book.held c.in_ok-write_log.ensures c.in_ok-write_table.ensures)
