use Rattle.std.proofs.Common.{◌≡◌}
use Rattle.message_links.specs.MailCores.{pushed}
use Rattle.mail_count.specs.Marks.{own_row, brought_row}
use Rattle.mail_count.proofs.Rewriting.{mapped}
use Rattle.mail_count.proofs.pairs.send_row.Given as goal

abbrev pub invariant-loop-bringing : goal.invariant-loop-bringing
invariant-loop-bringing l = record {
  own : own_row l.row ≡ mapped (λ fs. pushed fs l.own) l.bringing-index (own_row l.fn.row);
  brought : brought_row l.row ≡ brought_row l.fn.row;
}
