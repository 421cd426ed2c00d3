use Rattle.net_moves.proofs.Plain.{plain_rounds_are}
use Rattle.net_moves.proofs.laws.plain_rounds_are.Goals as goal

pub returns : goal.returns
returns c = plain_rounds_are
