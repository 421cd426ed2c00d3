use Rattle.firing_core.specs.Entries.{entry_of}
use Rattle.firing_core.specs.Books.{AppendsEntry, RefusesEntry}
use Rattle.firing_core.proofs.Appends.{appends_after, ok_map, err_map, refuses_after}
use Rattle.firing_core.proofs.books.Book.step.Goals as goal

pub returns-clause-ok : goal.returns-clause-ok
returns-clause-ok c =
    ok_map {P = AppendsEntry c.reserve.new.self c.apply.new.self c.args.entry} {Q = AppendsEntry c.args.self.now c.apply.new.self c.args.entry} c.apply.result
    (λ a. appends_after c.args.entry c.reserve.ensures.same a) c.apply.ensures.ok

pub returns-clause-refused : goal.returns-clause-refused
returns-clause-refused c =
    err_map {P = RefusesEntry c.reserve.new.self (entry_of c.args.entry)} {Q = RefusesEntry c.args.self.now (entry_of c.args.entry)} c.apply.result
    (λ f w. refuses_after c.args.self.now c.reserve.new.self (entry_of c.args.entry) f c.reserve.ensures.same w) c.apply.ensures.refused
