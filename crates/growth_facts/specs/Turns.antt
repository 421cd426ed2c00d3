-- How many firings and rounds limited rise takes.
use Rattle.std.specs.Prelude.{ℕ, suc, ◌≤◌, ◌+◌, ◌-◌, ◌*◌, ◌/◌}

-- how many steps of a growth lead past the greatest value, where the first one is at 0
abbrev pub steps_of : ℕ → ℕ → ℕ
steps_of greatest growth = suc (greatest / growth)

-- the firings of a step: the least number of them that makes up the growth, where each one rises by at least `least`
abbrev pub turns_of : ℕ → ℕ → ℕ
turns_of growth least = (growth + (least - 1)) / least

-- m firings make up the growth, and no fewer do
pub record IsLeastOfTurns (growth least m : ℕ) : Type 0 where
  pub enough : growth ≤ m * least
  pub fewest : (n : ℕ) → growth ≤ n * least → m ≤ n

-- the rounds of all steps: each step hears of the one before one round later
abbrev pub rounds_of : ℕ → ℕ → ℕ → ℕ
rounds_of greatest growth least =
    (turns_of growth least - 1) + (steps_of greatest growth - 1) * (turns_of growth least + 1)
