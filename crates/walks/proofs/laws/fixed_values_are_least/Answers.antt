use Rattle.walks.proofs.Fixed.{fixed_values}
use Rattle.walks.proofs.laws.fixed_values_are_least.Goals as goal

pub returns : goal.returns
returns c = fixed_values
