use Rattle.settle_rounds.proofs.Growing.{tables_grow_within}
use Rattle.settle_rounds.proofs.laws.tables_grow_within.Goals as goal

pub returns : goal.returns
returns c = tables_grow_within c.faultless_steps.ensures.copy c.exports_hold.ensures
