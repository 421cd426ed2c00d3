use Rattle.mail_book.proofs.MailEnds.{logs_end, logs_lead_to_one, logs_fail_once, logs_lead_or_fail}
use Rattle.mail_book.proofs.laws.mail_logs_end.Goals as goal

pub returns-clause-end : goal.returns-clause-end
returns-clause-end c = logs_end c.steps_keep_good.ensures.step c.faultless_steps.ensures.copy c.faultless_steps.ensures.step c.steps_agree.ensures.step

pub returns-clause-one : goal.returns-clause-one
returns-clause-one c = logs_lead_to_one c.steps_keep_good.ensures.step c.faultless_steps.ensures.copy c.faultless_steps.ensures.step c.steps_agree.ensures.step

pub returns-clause-fail : goal.returns-clause-fail
returns-clause-fail c = logs_fail_once c.steps_keep_good.ensures.step c.faultless_steps.ensures.copy c.faultless_steps.ensures.step c.steps_agree.ensures.step

pub returns-clause-either : goal.returns-clause-either
returns-clause-either c = logs_lead_or_fail c.steps_keep_good.ensures.step c.faultless_steps.ensures.copy c.faultless_steps.ensures.step c.steps_agree.ensures.step
