use Rattle.std.proofs.Common.{ℕ, ◌≡◌, false, true}
use Rattle.std.proofs.Common.{slice_index_or as get_or}
use Rattle.bound_rounds.proofs.Marks.{NearMarked}
use Rattle.bound_rounds.proofs.rounds.mark_near.Given as goal

abbrev pub invariant-loop-neighbour : goal.invariant-loop-neighbour
invariant-loop-neighbour l = record {
  marked : NearMarked l.envelope l.due l.place l.neighbour-index;
  kept : (i : ℕ) → get_or l.due i true ≡ false → get_or l.fn.due i true ≡ false;
}
