use Rattle.std.proofs.Common.{map, ap, ◌∙◌}
use Rattle.fc_values.specs.Fields.{entry_of}
use Rattle.command_frame.specs.Answers.{showing}
use Rattle.command_frame.specs.Ledgers.{ledger_of}
use Rattle.fc_gen.proofs.Running.{summed}
use Rattle.fc_gen.proofs.generating.summed_up.Goals as goal

pub returns : goal.returns
returns c =
    let s = c.args.session in
    c.showing.ensures
    ∙ ap (λ t. showing t (ledger_of s.book) s.parts.items)
    (summed c.args.number c.args.devices c.args.rounds c.firings.result c.agreeing.result c.held_sum.result
    (map entry_of c.args.field.now)
    s.book.log c.log.result.now s.parts.items c.deref.result.now s.book.core c.core.result.now c.core-2.result.now
    c.in_ok-text.text.items c.in_ok-text.ensures c.firings.ensures c.log.ensures.value c.deref.ensures.value c.agreeing.ensures
    c.core.ensures.value c.held_sum.ensures c.core-2.ensures.value)
