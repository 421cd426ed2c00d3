use Rattle.std.proofs.Common.{ℕ, ◌∙◌, refl, subst}
use Rattle.std.proofs.lemmas.Result.{err_from_is_err_and}
use Rattle.firing_core.specs.Entries.{entry_of}
use Rattle.firing_core.specs.CoreViews.{core_of}
use Rattle.firing_core.specs.Books.{RefusesAt}
use Rattle.firing_core.proofs.Appends.{still_book, appends}
use Rattle.firing_core.proofs.books.Book.apply.Goals as goal

pub returns-in_err-apply-clause-refused : goal.returns-in_err-apply-clause-refused
returns-in_err-apply-clause-refused c =
    let p = err_from_is_err_and c.from_residual.result c.from_residual.ensures.1 in
    rw (p.1, p.2, ← c.self.view_is)
    (subst (λ (i : ℕ). RefusesAt i (core_of c.self.inside.core) (entry_of c.args.entry) c.in_err-apply.field-0.0) (c.len-index.ensures ∙ c.self.inside.log.ok.0) c.in_err-apply.ensures.refused)

pub invariant_of-self-2 : goal.invariant_of-self-2
invariant_of-self-2 c = still_book _ _ _ _ c.args.entry c.self.invariant c.in_ok-apply.ensures.program c.in_ok-apply.ensures.ok c.push_reserved.ensures.items

pub returns-clause-ok : goal.returns-clause-ok
returns-clause-ok c = appends c.args.entry c.self.invariant c.self.view_is refl refl c.push_reserved.ensures.items c.in_ok-apply.ensures.ok
