use Rattle.std.proofs.Common.{◌≡◌, length}
use Rattle.std.specs.Prelude.{zip}
use Rattle.message_links.specs.MailEntries.{mail_entries}
use Rattle.mail_lines.proofs.ReadMail.{IsReadTo}
use Rattle.mail_lines.proofs.logs.read_mail.Given as goal

abbrev pub invariant-lines : goal.invariant-lines
invariant-lines l =
    IsReadTo l.text l.number l.rest (zip l.lines.items (mail_entries l.entries.items))
    × (length l.lines.items ≡ length l.entries.items)

abbrev pub decreases-lines : goal.decreases-lines
decreases-lines l = length l.rest
