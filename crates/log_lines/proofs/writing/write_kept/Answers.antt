use Rattle.std.proofs.Common.{◌≡◌, ◌++◌, ◌∙◌, ℕ, ap, Vec, Global}
use Rattle.report.proofs.WrittenSoFar.{written_more}
use Rattle.log_lines.proofs.WrittenLogs.{kept_lines, kept_line, kept_adds, kept_here, kept_past}
use Rattle.log_lines.proofs.writing.write_kept.Goals as goal
use Rattle.log_lines.proofs.writing.write_kept.Goals.{then-slot+in_ok-write_after_space, else-slot}

pub loop-slot-preserved : goal.loop-slot-preserved
loop-slot-preserved c =
    let slot = c.slot-item.result in
    let grown : c.if-slot.out.items ≡ c.loop-slot.out.items ++ kept_line slot = elim c.if-slot.branch [
      | then-slot+in_ok-write_after_space w ↦ kept_here slot _ _ w.if-slot.true (ap (λ (v : Vec ℕ Global). v.items) w.out-is ∙ w.in_ok-write_after_space.ensures)
      | else-slot w ↦ kept_past slot _ _ w.if-slot.false (ap (λ (v : Vec ℕ Global). v.items) w.out-is)
    ] in
    written_more kept_lines kept_line c.args.slots.now c.args.out.now.items c.loop-slot.out.items c.if-slot.out.items c.loop-slot.slot-index slot kept_adds c.loop-slot.invariant c.loop-slot-test.true c.slot-item.is grown
