use Rattle.std.proofs.Common.{◌≡◌, length}
use Rattle.value_bounds.specs.References.{local_bounds_in}
use Rattle.last_bounds.specs.References.{AreMade}
use Rattle.last_bounds.proofs.lasts.bounds_at_end.Given as goal

abbrev pub invariant-loop-place : goal.invariant-loop-place
invariant-loop-place l = record {
  many : length l.lasts.items ≡ l.place;
  made : AreMade l.envelope (local_bounds_in l.before) l.bounds l.changes l.rounds l.place l.lasts.items;
}
