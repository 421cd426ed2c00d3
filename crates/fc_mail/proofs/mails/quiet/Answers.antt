use Rattle.std.proofs.Common.{◌∙◌, ap}
use Rattle.mail_book.specs.MailViews.{quiet}
use Rattle.fc_mail.proofs.mails.quiet.Goals as goal

pub returns-clause-mail : goal.returns-clause-mail
returns-clause-mail c = c.in_ok-quiet.ensures.mail ∙ ap quiet c.in_ok-core.ensures.core
