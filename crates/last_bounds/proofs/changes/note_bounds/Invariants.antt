use Rattle.std.proofs.Common.{ℕ, ◌≡◌, ◌≤◌}
use Rattle.std.proofs.Common.{slice_index_or as get_or}
use Rattle.std.specs.declared.alloc.Global.{Global}
use Rattle.std.specs.declared.vec.Vec.{Vec}
use Rattle.last_bounds.specs.declared.changes.Change.{Change}
use Rattle.last_bounds.specs.References.{AreNoted}
use Rattle.last_bounds.proofs.changes.note_bounds.Given as goal

abbrev pub invariant-loop-place : goal.invariant-loop-place
invariant-loop-place l = record {
  noted : AreNoted l.envelope l.rounds l.bounds l.place l.fn.changes l.changes;
  ahead : (i : ℕ) (v : Vec Change Global) → l.place ≤ i → get_or l.changes i v ≡ get_or l.fn.changes i v;
}
