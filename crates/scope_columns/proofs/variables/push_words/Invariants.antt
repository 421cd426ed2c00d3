use Rattle.std.proofs.Common.{◌≡◌, ◌++◌, ◌-◌, ◌≤◌, drop, take}
use Rattle.scope_columns.proofs.variables.push_words.Given as goal

abbrev pub invariant-loop-i : goal.invariant-loop-i
invariant-loop-i l = record {
  from : l.at ≤ l.i;
  so_far : l.words.items ≡ l.initial.words.items ++ take (l.i - l.at) (drop l.at l.initial.words.items);
}
