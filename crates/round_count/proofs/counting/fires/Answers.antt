use Rattle.round_count.proofs.Moves.{wanting_begun, wanting_ended}
use Rattle.round_count.proofs.counting.fires.Goals as goal

pub returns-in-Begin-clause-wanting : goal.returns-in-Begin-clause-wanting
returns-in-Begin-clause-wanting c = wanting_begun c.advance.result _ _ c.advance.ensures.same c.advance.ensures.set

pub returns-in-End-clause-wanting : goal.returns-in-End-clause-wanting
returns-in-End-clause-wanting c = wanting_ended c.advance-in-End.result _ _ c.advance-in-End.ensures.same c.advance-in-End.ensures.set
