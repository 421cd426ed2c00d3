-- What a count of faults says of the answers of a source or a sink.
use Rattle.std.specs.Prelude.{ℕ, ◌≡◌, ◌+◌, ◌-◌, ◌^◌, ◌≤◌, min, Result, OnOk, OnErr}

-- a counter of 64 bits after one more count; it stays at its greatest value
abbrev pub counted : ℕ → ℕ
counted n = min (n + 1) (2 ^ 64 - 1)

-- the count has risen, or stands at the greatest value of its counter
abbrev pub Rose : ℕ → ℕ → Type 0
Rose before now = counted before ≤ now

-- what the answer of a call says about the count before it and after it
pub record HasCause {T E : Type 0} (before now : ℕ) (result : Result T E) : Type 0 where
  -- the count never falls
  pub later : before ≤ now
  -- a call that fails was counted
  pub failed : OnErr result (Rose before now)
  -- a call that doesn't fail has met no fault
  pub quiet : OnOk result (now ≡ before)
