use Rattle.std.proofs.Common.{refl}
use Rattle.std.proofs.lemmas.Result.{err_from_is_err_and}
use Rattle.firing_core.specs.declared.entries.Entry.TheVariants as entry
use Rattle.firing_core.proofs.Appends.{still_book, appends}
use Rattle.firing_core.proofs.books.Book.edit.Goals as goal

pub returns-in_err-edit-clause-refused : goal.returns-in_err-edit-clause-refused
returns-in_err-edit-clause-refused c = let p = err_from_is_err_and c.from_residual.result c.from_residual.ensures.1 in rw (p.1, p.2, ← c.self.view_is) c.in_err-edit.ensures.refused

pub invariant_of-self-2 : goal.invariant_of-self-2
invariant_of-self-2 c = still_book _ _ _ _ (entry.Edit c.args.edit) c.self.invariant c.in_ok-edit.ensures.program c.in_ok-edit.ensures.ok c.push_reserved.ensures.items

pub returns-clause-ok : goal.returns-clause-ok
returns-clause-ok c = appends (entry.Edit c.args.edit) c.self.invariant c.self.view_is refl refl c.push_reserved.ensures.items c.in_ok-edit.ensures.ok
