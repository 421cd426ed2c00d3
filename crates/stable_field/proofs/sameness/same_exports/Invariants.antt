use Rattle.std.proofs.Common.{ℕ, ◌<◌, get_or, None}
use Rattle.stable_field.specs.Outside.{SameExport}
use Rattle.stable_field.proofs.sameness.same_exports.Given as goal

abbrev pub invariant-loop-place : goal.invariant-loop-place
invariant-loop-place l = record {
  same : (i : ℕ) → i < l.place → SameExport l.slots (get_or l.a i None) (get_or l.b i None);
}
