use Rattle.std.proofs.Common.{ℕ, ◌≡◌, ◌≤◌}
use Rattle.std.proofs.Common.{slice_index_or as get_or}
use Rattle.bound_firing.specs.declared.firing.ExportBound.{ExportBound}
use Rattle.bound_rounds.specs.Tables.{AreSwapped}
use Rattle.bound_rounds.proofs.rounds.take_drafts.Given as goal

abbrev pub invariant-loop-place : goal.invariant-loop-place
invariant-loop-place l = record {
  bounds : AreSwapped l.changed l.place l.fn.bounds l.fn.drafts l.bounds;
  drafts : AreSwapped l.changed l.place l.fn.drafts l.fn.bounds l.drafts;
  bounds_ahead : (i : ℕ) (x : ExportBound) → l.place ≤ i → get_or l.bounds i x ≡ get_or l.fn.bounds i x;
  drafts_ahead : (i : ℕ) (x : ExportBound) → l.place ≤ i → get_or l.drafts i x ≡ get_or l.fn.drafts i x;
}
