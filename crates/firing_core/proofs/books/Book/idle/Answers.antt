use Rattle.std.proofs.Common.{refl}
use Rattle.firing_core.specs.declared.entries.Entry.TheVariants as entry
use Rattle.firing_core.proofs.Appends.{still_book, appends}
use Rattle.firing_core.proofs.books.Book.idle.Goals as goal

pub invariant_of-self : goal.invariant_of-self
invariant_of-self c = still_book _ _ _ _ entry.Idle c.self.invariant refl refl c.push_reserved.ensures.items

pub returns-clause-appended : goal.returns-clause-appended
returns-clause-appended c = appends entry.Idle c.self.invariant c.self.view_is refl refl c.push_reserved.ensures.items refl
