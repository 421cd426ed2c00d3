use Rattle.std.proofs.Common.{◌≡◌, map, false}
use Rattle.mail_count.specs.Marks.{own_rows, brought_rows}
use Rattle.mail_count.proofs.Rewriting.{mapped}
use Rattle.mail_count.proofs.pairs.clear_rows.Given as goal

abbrev pub invariant-loop-row : goal.invariant-loop-row
invariant-loop-row l = record {
  own : own_rows l.rows ≡ mapped (λ r. map (λ fs. map (λ f. false) fs) r) l.row-index (own_rows l.fn.rows);
  brought : brought_rows l.rows ≡ mapped (λ r. map (λ b. false) r) l.row-index (brought_rows l.fn.rows);
}
