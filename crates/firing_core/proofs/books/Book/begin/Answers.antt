use Rattle.std.proofs.Common.{refl}
use Rattle.std.proofs.lemmas.Result.{err_from_is_err_and}
use Rattle.firing_core.specs.declared.entries.Entry.TheVariants as entry
use Rattle.firing_core.proofs.Appends.{still_book, appends}
use Rattle.firing_core.proofs.books.Book.begin.Goals as goal

pub invariant_of-self-2 : goal.invariant_of-self-2
invariant_of-self-2 c = still_book _ _ _ _ (entry.Begin c.args.device) c.self.invariant c.in_ok-begin.ensures.same.program c.in_ok-begin.ensures.ok c.push_reserved.ensures.items

pub returns-clause-ok : goal.returns-clause-ok
returns-clause-ok c = appends (entry.Begin c.args.device) c.self.invariant c.self.view_is refl refl c.push_reserved.ensures.items c.in_ok-begin.ensures.ok

pub returns-in_err-begin-clause-flying : goal.returns-in_err-begin-clause-flying
returns-in_err-begin-clause-flying c = let p = err_from_is_err_and c.from_residual.result c.from_residual.ensures.1 in rw (p.1, p.2, ← c.self.view_is) c.in_err-begin.ensures.flying

pub returns-clause-flying : goal.returns-clause-flying
returns-clause-flying c = rw (← c.self.view_is) c.in_ok-begin.ensures.flying
