use Rattle.fc_values.proofs.Orders.{equal_says_same}
use Rattle.fc_values.proofs.laws.equal_says_same.Goals as goal

pub returns : goal.returns
returns c = equal_says_same
