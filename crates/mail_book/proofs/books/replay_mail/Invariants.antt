use Rattle.mail_book.proofs.Replayed.{MailedTo}
use Rattle.mail_book.proofs.books.replay_mail.Given as goal

abbrev pub invariant-loop-index : goal.invariant-loop-index
invariant-loop-index l = record { read : MailedTo l.fn.start l.fn.log.items l.index l.mail }
