use Rattle.last_bounds.proofs.OneList.{one_list}
use Rattle.last_bounds.proofs.laws.one_list.Goals as goal

pub returns : goal.returns
returns c = one_list
