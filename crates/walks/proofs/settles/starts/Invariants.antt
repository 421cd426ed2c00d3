use Rattle.std.proofs.Common.{◌≡◌, ◌<◌, ◌≤◌, ℕ, length, get_or}
use Rattle.std.specs.List.{AllWithin}
use Rattle.walks.proofs.settles.starts.Given as goal

abbrev pub invariant-loop-one : goal.invariant-loop-one
invariant-loop-one l = record {
  values : AllWithin (λ (d : ℕ × ℕ). (d.0 < length l.values.items) × (get_or l.values.items d.0 0 ≡ d.1)) l.one-items 0 l.one-index;
  short : AllWithin (λ (d : ℕ × ℕ). length l.values.items ≤ d.0) l.one-items l.one-index (length l.one-items);
}
