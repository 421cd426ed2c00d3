use Rattle.std.proofs.Common.{sym, subst}
use Rattle.message_links.specs.MailCores.{MailAgain}
use Rattle.message_links.specs.MailEntries.{mail_entry}
use Rattle.message_links.specs.declared.entries.MailEntry.{MailEntry}
use Rattle.mail_count.specs.Seen.{Seen, noted}
use Rattle.mail_count.specs.Marks.{Tells}
use Rattle.mail_count.proofs.MarkSteps.{delivered}
use Rattle.mail_count.proofs.marks.Marks.note.Goals as goal

pub returns-in-Deliver : goal.returns-in-Deliver
returns-in-Deliver c = λ s t.
    subst (λ (e : MailEntry). Tells c.args.net.now c.lose.new.self (noted c.args.net.now s (mail_entry e))) (sym c.in-Deliver.is)
    (subst (λ (r : Seen). Tells c.args.net.now c.lose.new.self r) (delivered c.args.net.now s c.in-Deliver.from c.in-Deliver.to)
    (c.lose.ensures (noted c.args.net.now s (MailAgain c.in-Deliver.from c.in-Deliver.to)) (c.bring.ensures s t)))
