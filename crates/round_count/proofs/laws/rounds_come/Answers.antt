use Rattle.round_count.proofs.Coming.{rounds_come}
use Rattle.round_count.proofs.laws.rounds_come.Goals as goal

pub returns : goal.returns
returns c =
    rounds_come c.steps_keep_good.ensures.step c.steps_keep_good.ensures.plain c.faultless_steps.ensures.step
    c.runs_cut.ensures.cut
