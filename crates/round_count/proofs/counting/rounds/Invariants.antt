use Rattle.std.proofs.Common.{◌≡◌, ◌<◌, ◌≤◌, drop, map}
use Rattle.firing_core.specs.Entries.{entry_of}
use Rattle.round_count.specs.Marks.{wanting}
use Rattle.round_count.proofs.Counts.{Counted}
use Rattle.round_count.proofs.counting.rounds.Given as goal

abbrev pub invariant-loop-entry : goal.invariant-loop-entry
invariant-loop-entry l = record {
  few : l.count ≤ l.entry-index;
  left : l.left ≡ wanting l.marks;
  some : 0 < l.left;
  counted : Counted l.live (map entry_of l.entry-items) l.count l.marks (map entry_of (drop l.entry-index l.entry-items));
}
