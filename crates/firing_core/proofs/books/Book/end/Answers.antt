use Rattle.std.proofs.Common.{refl}
use Rattle.std.proofs.lemmas.Result.{err_from_is_err_and}
use Rattle.firing_core.specs.declared.entries.Entry.TheVariants as entry
use Rattle.firing_core.proofs.Appends.{still_book, appends, flight_of}
use Rattle.firing_core.proofs.books.Book.end.Goals as goal

pub end-requires-clause-copy : goal.end-requires-clause-copy
end-requires-clause-copy c = flight_of c.args.fired.snap.device c.args.fired.snap c.self.invariant c.self.view_is c.requires.copy

pub returns-in_err-copies-clause-refused : goal.returns-in_err-copies-clause-refused
returns-in_err-copies-clause-refused c = let p = err_from_is_err_and c.from_residual.result c.from_residual.ensures.1 in rw (p.1, p.2, ← c.self.view_is) c.in_err-copies.ensures.refused

pub invariant_of-self-2 : goal.invariant_of-self-2
invariant_of-self-2 c =
    still_book _ _ _ _ (entry.End c.args.fired.snap.device) c.self.invariant c.in_ok-copies.ensures.same.program c.in_ok-copies.ensures.ok (rw c.snap.ensures.value at c.push_reserved.ensures.items)

pub returns-clause-ok : goal.returns-clause-ok
returns-clause-ok c =
    appends (entry.End c.args.fired.snap.device) c.self.invariant c.self.view_is refl refl (rw c.snap.ensures.value at c.push_reserved.ensures.items) c.in_ok-copies.ensures.ok
