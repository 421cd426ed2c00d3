use Rattle.std.proofs.Common.{◌≡◌, ℕ}
use Rattle.std.specs.BTreeMap.{get}
use Rattle.change_bounds.specs.Tables.{by_pair, pair_said}
use Rattle.change_bounds.proofs.Lines.{said_to}
use Rattle.change_bounds.proofs.pairs.pairs_said.Given as goal

abbrev pub invariant-loop-line : goal.invariant-loop-line
invariant-loop-line l = (x y : ℕ) → get by_pair l.table (x, y) ≡ pair_said l.network (said_to l.lines l.line-index) x y
