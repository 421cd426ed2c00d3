-- The entries of a mail log, as plain values.
use Rattle.std.specs.Prelude.{List, map}
use Rattle.message_links.specs.MailCores.{MailEntryValue, MailBegin, MailEnd, MailIdle}
use Rattle.message_links.specs.MailCores.{MailDeliver, MailAgain, MailLose}
use Rattle.message_links.specs.declared.entries.MailEntry.{MailEntry}
use Rattle.message_links.specs.declared.entries.MailEntry.TheVariants as entry

abbrev pub mail_entry : MailEntry → MailEntryValue
mail_entry (entry.Begin d) = MailBegin d
mail_entry (entry.End d) = MailEnd d
mail_entry entry.Idle = MailIdle
mail_entry (entry.Deliver a b) = MailDeliver a b
mail_entry (entry.Again a b) = MailAgain a b
mail_entry (entry.Lose a b i) = MailLose a b i

abbrev pub mail_entries : List MailEntry → List MailEntryValue
mail_entries es = map mail_entry es
