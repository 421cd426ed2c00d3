use Rattle.firing_core.proofs.Appends.{fresh_book}
use Rattle.firing_core.proofs.books.Book.new.Goals as goal

pub invariant_of-result : goal.invariant_of-result
invariant_of-result c = fresh_book _ _ _ _ _ c.requires c.in-Ok.ensures.kept c.in-Ok.ensures.program c.in-Ok.ensures.core c.new.ensures.items

pub returns-clause-book : goal.returns-clause-book
returns-clause-book c = fresh_book _ _ _ _ _ c.requires c.in-Ok.ensures.kept c.in-Ok.ensures.program c.in-Ok.ensures.core c.new.ensures.items
