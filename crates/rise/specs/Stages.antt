-- Stages of limited rise.
use Rattle.std.specs.Prelude.{ℕ, suc, ◌≡◌, ◌≤◌, ◌+◌, ◌*◌, ◌⊎◌, min}

-- two numbers that are equal, or both at least k
abbrev pub Near : ℕ → ℕ → ℕ → Type 0
Near k a b = (a ≡ b) ⊎ ((k ≤ a) × (k ≤ b))

-- stage i for steps of a growth: a value that isn't the solution's yet lies no lower
abbrev pub stage : ℕ → ℕ → ℕ → ℕ
stage ceiling growth i = min ceiling (i * growth)

-- between stage i and the next one, after `done` firings that rise by at least `least` each
abbrev pub climbed : ℕ → ℕ → ℕ → ℕ → ℕ → ℕ
climbed ceiling growth least i done = min ceiling (min (suc i * growth) (i * growth + done * least))
