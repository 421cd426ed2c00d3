use Rattle.mail_laws.proofs.Rounds.{yes_stabilises_mail}
use Rattle.mail_laws.proofs.laws.yes_stabilises_mail.Goals as goal

pub returns : goal.returns
returns c = yes_stabilises_mail c.yes_raises_levels.ensures c.steps_keep_good.ensures.step c.faultless_steps.ensures.copy
