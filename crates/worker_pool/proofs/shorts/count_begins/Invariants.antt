use Rattle.std.proofs.Common.{◌≡◌, ◌+◌, ◌≤◌, drop}
use Rattle.firing_core.specs.Entries.{entries_of}
use Rattle.firing_core.specs.Stretches.{begins}
use Rattle.worker_pool.proofs.shorts.count_begins.Given as goal

abbrev pub invariant-loop-entry : goal.invariant-loop-entry
invariant-loop-entry l = record {
  few : l.count ≤ l.entry-index;
  counted : l.count + begins l.device (entries_of (drop l.entry-index l.entries)) ≡ begins l.device (entries_of l.entries);
}
