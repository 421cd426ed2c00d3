use Rattle.std.proofs.Common.{◌≡◌, ℕ}
use Rattle.std.specs.Ordering.{nat_cmp}
use Rattle.std.specs.BTreeMap.{get}
use Rattle.change_bounds.specs.Tables.{presence}
use Rattle.change_bounds.proofs.Lines.{said_to}
use Rattle.change_bounds.proofs.devices.devices_said.Given as goal

abbrev pub invariant-loop-line : goal.invariant-loop-line
invariant-loop-line l = (d : ℕ) → get nat_cmp l.table d ≡ presence l.network (said_to l.lines l.line-index) d
