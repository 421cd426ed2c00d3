use Rattle.settle_rounds.proofs.MailRounds.{bounds_reach_mail}
use Rattle.settle_rounds.proofs.laws.bounds_reach_mail.Goals as goal

pub returns : goal.returns
returns c = bounds_reach_mail c.steps_keep_good.ensures.step c.faultless_steps.ensures.copy c.runs_cut.ensures.cut
