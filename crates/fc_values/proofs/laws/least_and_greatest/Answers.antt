use Rattle.fc_values.proofs.Orders.{least_is_least, greatest_is_greatest}
use Rattle.fc_values.proofs.laws.least_and_greatest.Goals as goal

pub returns-clause-least : goal.returns-clause-least
returns-clause-least c = least_is_least

pub returns-clause-greatest : goal.returns-clause-greatest
returns-clause-greatest c = greatest_is_greatest
