use Rattle.std.proofs.Common.{subst, sym}
use Rattle.firing_core.specs.Books.{BookValue}
use Rattle.firing_core.specs.Entries.{entries_of}
use Rattle.export_table.specs.Items.{Opening}
use Rattle.export_table.specs.Holding.{BeginsWithin, EachIsNext, log_in}
use Rattle.export_table.specs.Passing.{on_log}
use Rattle.export_table.specs.Turns.{Closes}
use Rattle.export_table.proofs.Turning.{closes, closes_same}
use Rattle.export_table.proofs.shared.Shared.close.Goals as goal

pub returns-clause-closes : goal.returns-clause-closes
returns-clause-closes c = subst (λ (b : BookValue). Closes c.args.self.opening (on_log c.args.pass) b) (sym c.into_book.ensures.book) (closes c.args.self c.args.pass c.close.result c.requires.own c.close.ensures)

pub returns-clause-within : goal.returns-clause-within
returns-clause-within c = subst (λ (b : BookValue). BeginsWithin c.args.self.opening (entries_of b.log)) (sym c.into_book.ensures.book)
    (subst (λ (o : Opening). BeginsWithin o (log_in c.close.result)) (closes_same c.args.self c.args.pass c.close.result c.requires.own c.close.ensures) c.into_book.ensures.within)

pub returns-clause-next : goal.returns-clause-next
returns-clause-next c = subst (λ (b : BookValue). EachIsNext c.args.self.opening (entries_of b.log)) (sym c.into_book.ensures.book)
    (subst (λ (o : Opening). EachIsNext o (log_in c.close.result)) (closes_same c.args.self c.args.pass c.close.result c.requires.own c.close.ensures) c.into_book.ensures.next)
