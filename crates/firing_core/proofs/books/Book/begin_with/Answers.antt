use Rattle.std.proofs.Common.{refl, sym, subst}
use Rattle.std.proofs.lemmas.Result.{err_from_is_err_and}
use Rattle.fc_nodes.specs.Program.{Program, unfolding_of}
use Rattle.firing_core.specs.Rooms.{IsRoom}
use Rattle.firing_core.specs.Books.{BookValue}
use Rattle.firing_core.specs.declared.entries.Entry.TheVariants as entry
use Rattle.firing_core.proofs.Appends.{still_book, appends}
use Rattle.firing_core.proofs.books.Book.begin_with.Goals as goal

pub begin_with-requires : goal.begin_with-requires
begin_with-requires c =
    subst (λ (p : Program). IsRoom (unfolding_of p) c.args.room) (sym c.self.invariant.held)
    (subst (λ (b : BookValue). IsRoom (unfolding_of b.program) c.args.room) (sym c.self.view_is) c.requires.room)

pub invariant_of-self-2 : goal.invariant_of-self-2
invariant_of-self-2 c = still_book _ _ _ _ (entry.Begin c.args.device) c.self.invariant c.in_ok-answer.ensures.same.program c.in_ok-answer.ensures.ok c.push_reserved.ensures.items

pub returns-clause-ok : goal.returns-clause-ok
returns-clause-ok c = appends (entry.Begin c.args.device) c.self.invariant c.self.view_is refl refl c.push_reserved.ensures.items c.in_ok-answer.ensures.ok

pub returns-in_err-answer-clause-refused : goal.returns-in_err-answer-clause-refused
returns-in_err-answer-clause-refused c = let p = err_from_is_err_and c.from_residual.result c.from_residual.ensures.1 in rw (p.1, p.2, ← c.self.view_is) c.in_err-answer.ensures.refused
