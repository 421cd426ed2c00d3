use Rattle.std.proofs.Common.{sym, ◌+◌, ◌∙◌, arith, subst, ℕ}
use Rattle.round_count.proofs.Logs.{Scanned, scan_on, scan_edit}
use Rattle.round_count.proofs.counting.after_last_edit.Goals as goal
use Rattle.round_count.proofs.counting.after_last_edit.Goals.{then-is_edit, else-is_edit}

pub loop-at-preserved : goal.loop-at-preserved
loop-at-preserved c =
    let log = c.args.log.now in
    let was = c.loop-at.invariant in
    let i = c.loop-at.at in
    elim c.if-is_edit.branch [
      | then-is_edit w ↦ record {
        within = omega (arith, w.start-is);
        scanned = subst (λ (n : ℕ). Scanned log (i + 1) n) (sym w.start-is) (scan_edit log i c.loop-at.start c.index-log-at.result c.loop-at-test.true c.index-log-at.is (sym c.is_edit.ensures ∙ w.if-is_edit.true) was.scanned);
      }
      | else-is_edit w ↦ record {
        within = omega (arith, w.start-is);
        scanned = subst (λ (n : ℕ). Scanned log (i + 1) n) (sym w.start-is) (scan_on log i c.loop-at.start c.index-log-at.result c.loop-at-test.true c.index-log-at.is was.within (sym c.is_edit.ensures ∙ w.if-is_edit.false) was.scanned);
      }
    ]
