use Rattle.fc_mail.proofs.MailOwed as proof
use Rattle.fc_mail.proofs.laws.mail_owes.Goals as goal

pub returns : goal.returns
returns c =
    proof.mail_owes c.inputs_are_read.ensures c.mail_logs_end.ensures.one c.mail_logs_end.ensures.fail
    c.mail_logs_end.ensures.either c.mail_logs_end.ensures.end c.logs_decide.ensures.one c.steps_keep_good.ensures.step
    c.steps_keep_good.ensures.run c.some_greatest_mail.ensures c.faultless_steps.ensures.step c.driven_logs_lead.ensures
    c.yes_stabilises_mail.ensures c.driven_rounds_cover.ensures.rounds c.driven_rounds_cover.ensures.no_more
