use Rattle.fc_types.proofs.Declarations.{one_first}
use Rattle.fc_types.proofs.laws.one_first_fault.Goals as goal

pub returns : goal.returns
returns c = λ ds n m k l f g. one_first f g
