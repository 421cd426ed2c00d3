use Rattle.std.proofs.Common.{subst}
use Rattle.export_table.specs.Holding.{HeldValue, BeginsWithin, EachIsNext, opening_in, log_in}
use Rattle.export_table.proofs.held.Held.into_book.Goals as goal

pub returns-clause-within : goal.returns-clause-within
returns-clause-within c = subst (λ (z : HeldValue). BeginsWithin (opening_in z) (log_in z)) c.self.view_is c.self.invariant.within

pub returns-clause-next : goal.returns-clause-next
returns-clause-next c = subst (λ (z : HeldValue). EachIsNext (opening_in z) (log_in z)) c.self.view_is c.self.invariant.next
