use Rattle.std.proofs.Common.{◌∙◌}
use Rattle.mail_book.proofs.MessageSteps.{without_remove}
use Rattle.mail_book.proofs.letters.lose.Goals as goal

pub returns-clause-transit : goal.returns-clause-transit
returns-clause-transit c = c.remove.ensures.items ∙ without_remove c.args.letters.now.transit.items c.args.at
