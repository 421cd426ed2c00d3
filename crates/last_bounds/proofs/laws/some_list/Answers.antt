use Rattle.last_bounds.proofs.SomeList.{some_list}
use Rattle.last_bounds.proofs.laws.some_list.Goals as goal

pub returns : goal.returns
returns c = some_list c.exports_hold.ensures
