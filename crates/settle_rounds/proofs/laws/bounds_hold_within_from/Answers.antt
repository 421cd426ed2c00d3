use Rattle.settle_rounds.proofs.HoldWithin.{bounds_hold_within_from}
use Rattle.settle_rounds.proofs.laws.bounds_hold_within_from.Goals as goal

pub returns : goal.returns
returns c = bounds_hold_within_from c.steps_keep_good.ensures.step c.faultless_steps.ensures.copy c.runs_cut.ensures.cut
