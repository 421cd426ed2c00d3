use Rattle.scenarios.proofs.Typing.{rings_are_typed}
use Rattle.scenarios.proofs.laws.rings_are_typed.Goals as goal

pub returns : goal.returns
returns c = rings_are_typed
