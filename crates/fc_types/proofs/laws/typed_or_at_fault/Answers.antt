use Rattle.fc_types.specs.Before.{nothing_declared}
use Rattle.fc_types.proofs.Declarations.{typed_or_fault, not_typed}
use Rattle.fc_types.proofs.laws.typed_or_at_fault.Goals as goal

pub returns-clause-either : goal.returns-clause-either
returns-clause-either c = λ ds. typed_or_fault 1 nothing_declared ds

pub returns-clause-not_both : goal.returns-clause-not_both
returns-clause-not_both c = λ ds n k a f. not_typed a f
