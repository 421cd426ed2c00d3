use Rattle.std.proofs.Common.{◌≡◌, map, false}
use Rattle.mail_count.specs.Marks.{own_row, brought_row}
use Rattle.mail_count.proofs.Rewriting.{mapped}
use Rattle.mail_count.proofs.pairs.clear_row.Given as goal

abbrev pub invariant-loop-bringing : goal.invariant-loop-bringing
invariant-loop-bringing l = record {
  own : own_row l.row ≡ mapped (λ fs. map (λ f. false) fs) l.bringing-index (own_row l.fn.row);
  brought : brought_row l.row ≡ mapped (λ b. false) l.bringing-index (brought_row l.fn.row);
}
