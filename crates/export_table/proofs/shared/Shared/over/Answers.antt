use Rattle.std.proofs.Common.{ap}
use Rattle.export_table.specs.Holding.{opening_in}
use Rattle.export_table.proofs.Turning.{first_pass}
use Rattle.export_table.proofs.shared.Shared.over.Goals as goal

pub returns-in-Ok-clause-pass : goal.returns-in-Ok-clause-pass
returns-in-Ok-clause-pass c = (first_pass c.args.book c.args.rounds c.args.turns c.in_ok-held.held (record { lock = c.in-Ok.lock; opening = opening_in c.of-opened.result.value }) c.in-Ok.pass
    c.in_ok-held.ensures.opened (ap opening_in c.of-opened.ensures) c.in-Ok.ensures.made).1

pub returns-in-Ok-clause-own : goal.returns-in-Ok-clause-own
returns-in-Ok-clause-own c = (first_pass c.args.book c.args.rounds c.args.turns c.in_ok-held.held (record { lock = c.in-Ok.lock; opening = opening_in c.of-opened.result.value }) c.in-Ok.pass
    c.in_ok-held.ensures.opened (ap opening_in c.of-opened.ensures) c.in-Ok.ensures.made).0
