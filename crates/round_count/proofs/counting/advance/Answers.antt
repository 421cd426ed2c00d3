use Rattle.std.proofs.Common.{sym, Ok, Err}
use Rattle.std.proofs.lemmas.List.Sorted.{searched}
use Rattle.round_count.proofs.Rising.{rises_far}
use Rattle.round_count.proofs.Moves.{moved_set, moved_none, no_mark_other, no_mark_absent}
use Rattle.round_count.proofs.counting.advance.Goals as goal

pub returns-in-Ok-clause-marks : goal.returns-in-Ok-clause-marks
returns-in-Ok-clause-marks c =
    let live = c.args.live.now in
    let there = searched live c.args.device (Ok c.in-Ok.at) c.in-Ok.ensures.position (rises_far live c.requires.rising) in
    sym (moved_set c.args.device c.args.from c.args.to live c.args.marks.now c.in-Ok.at c.requires.rising c.requires.marks there.0 there.1 c.if-marks-at.true)

pub returns-in_default-clause-marks : goal.returns-in_default-clause-marks
returns-in_default-clause-marks c =
    let live = c.args.live.now in
    let there = searched live c.args.device (Ok c.in-Ok.at) c.in-Ok.ensures.position (rises_far live c.requires.rising) in
    sym (moved_none c.args.device c.args.from c.args.to live c.args.marks.now c.requires.marks (no_mark_other c.args.device c.args.from live c.args.marks.now c.in-Ok.at c.requires.rising there.0 there.1 c.if-marks-at.false))

pub returns-in_default-2-clause-marks : goal.returns-in_default-2-clause-marks
returns-in_default-2-clause-marks c =
    let live = c.args.live.now in
    let gap = searched live c.args.device (Err _) c.in_default.ensures.position (rises_far live c.requires.rising) in
    sym (moved_none c.args.device c.args.from c.args.to live c.args.marks.now c.requires.marks (no_mark_absent c.args.device c.args.from live c.args.marks.now _ gap.1 gap.2))
