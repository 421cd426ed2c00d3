use Rattle.std.proofs.Common.{◌≤◌, map, drop}
use Rattle.message_links.specs.MailEntries.{mail_entry}
use Rattle.message_links.specs.MailRounds.{posts_of}
use Rattle.mail_book.specs.MailViews.{mail_of}
use Rattle.mail_count.proofs.Counts.{CountedSoFar}
use Rattle.mail_count.proofs.counting.mail_rounds.Given as goal

abbrev pub invariant-loop-entry : goal.invariant-loop-entry
invariant-loop-entry l = record {
  few : l.count ≤ l.entry-index;
  read : CountedSoFar l.net (posts_of (mail_of l.fn.book.start)) (map mail_entry l.entry-items) l.count (map mail_entry (drop l.entry-index l.entry-items)) l.marks;
}
