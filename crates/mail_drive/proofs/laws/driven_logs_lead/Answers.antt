use Rattle.mail_drive.proofs.Leading.{driven_logs_lead}
use Rattle.mail_drive.proofs.laws.driven_logs_lead.Goals as goal

pub returns : goal.returns
returns c = driven_logs_lead c.steps_keep_good.ensures.step c.faultless_steps.ensures.copy c.faultless_steps.ensures.step
