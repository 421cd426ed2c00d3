-- The pairs in a bound: a measure of walks over it.
use Rattle.std.proofs.Common.{ℕ, suc, ◌+◌}
use Rattle.value_bounds.specs.BoundValues.{BoundValue, Both}

abbrev pub pairs : BoundValue → ℕ
pairs (Both a b) = suc (pairs a + pairs b)
pairs _ = 0
