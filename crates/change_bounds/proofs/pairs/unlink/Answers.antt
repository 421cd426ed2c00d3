use Rattle.std.proofs.Common.{◌∙◌, sym, ap}
use Rattle.std.specs.Option.{option_copied_mut}
use Rattle.change_bounds.specs.Tables.{unlinked}
use Rattle.change_bounds.proofs.Keys.{over_pair}
use Rattle.change_bounds.proofs.pairs.unlink.Goals as goal

pub returns-in-Some : goal.returns-in-Some
returns-in-Some c =
    over_pair unlinked c.args.table.now (c.get_mut.follows.lender (unlinked c.in-Some.bound.now)) c.args.pair c.in-Some.bound.now
    (sym c.get_mut.ensures.value ∙ ap option_copied_mut c.in-Some.is) (c.get_mut.follows.holds (unlinked c.in-Some.bound.now))
