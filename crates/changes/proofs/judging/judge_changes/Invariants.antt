use Rattle.std.proofs.Common.{◌≡◌, drop, map}
use Rattle.changes.specs.Code.{line_in}
use Rattle.changes.specs.Faults.{first_from, refused_line}
use Rattle.changes.specs.Hand.{said}
use Rattle.changes.specs.Kept.{AreHandsOf, told_of}
use Rattle.changes.proofs.Lines.{before}
use Rattle.changes.proofs.judging.judge_changes.Given as goal

abbrev pub ghost-line_fault : goal.ghost-line_fault
ghost-line_fault a = told_of (said (map line_in a.lines.now)) (before a.at a.lines.now)

abbrev pub ghost-add_line : goal.ghost-add_line
ghost-add_line a = before a.at a.lines.now

abbrev pub invariant-loop-at : goal.invariant-loop-at
invariant-loop-at l = record {
  hands : AreHandsOf l.network (told_of (said (map line_in l.lines)) (before l.at l.lines)) l.hands;
  rest : first_from l.network (said (map line_in l.lines)) (before l.at l.lines) (map line_in (drop l.at l.lines)) ≡ refused_line l.network (map line_in l.lines);
}
