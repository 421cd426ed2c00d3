use Rattle.value_bounds.proofs.Builtins.{builtin_lies}
use Rattle.value_bounds.proofs.laws.builtins_lie.Goals as goal

pub returns : goal.returns
returns c = builtin_lies
