use Rattle.mail_count.proofs.Greatest.{some_greatest}
use Rattle.mail_count.proofs.laws.some_greatest_mail.Goals as goal

pub returns : goal.returns
returns c = some_greatest
