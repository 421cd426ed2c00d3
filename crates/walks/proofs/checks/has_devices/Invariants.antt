use Rattle.std.proofs.Common.{◌≡◌, ◌<◌, ℕ, get_or}
use Rattle.walks.specs.declared.types.Evidence.{Evidence}
use Rattle.walks.proofs.checks.has_devices.Given as goal

abbrev pub invariant-loop-i : goal.invariant-loop-i
invariant-loop-i l = (k : ℕ) (e : Evidence) (d : ℕ × ℕ) → k < l.i → (get_or l.claim k e).device ≡ (get_or l.one-items k d).0
