use Rattle.std.proofs.Common.{◌∙◌, ap}
use Rattle.std.specs.Prelude.{Option}
use Rattle.change_bounds.specs.declared.pairs.PairBound.{PairBound}
use Rattle.change_bounds.specs.Tables.{linked}
use Rattle.change_bounds.proofs.Keys.{made_pair}
use Rattle.change_bounds.proofs.pairs.widen.Goals as goal

pub returns : goal.returns
returns c =
    made_pair (λ (o : Option PairBound). linked o c.args.weights c.args.sure) c.args.table.now c.insert.new.self c.args.pair
    c.widened-bound.result
    (c.widened-bound.ensures ∙ ap (λ (o : Option PairBound). linked o c.args.weights c.args.sure) c.get.ensures.value)
    c.in_ok-insert.ensures.updates
