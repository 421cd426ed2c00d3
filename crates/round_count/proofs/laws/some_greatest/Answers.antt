use Rattle.round_count.proofs.Greatest.{some_greatest}
use Rattle.round_count.proofs.laws.some_greatest.Goals as goal

pub returns : goal.returns
returns c = some_greatest
