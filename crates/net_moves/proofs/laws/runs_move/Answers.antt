use Rattle.net_moves.proofs.Moving.{run_nets}
use Rattle.net_moves.proofs.laws.runs_move.Goals as goal

pub returns : goal.returns
returns c = run_nets
