-- What the values of the code stand for.
use Rattle.std.specs.Prelude.{ℕ, List, [], take, length, min, Option, Some, None, slice_get, slice_index, ◌≡◌, ◌<◌}
use Rattle.fc_types.specs.declared.known.Function.{Function as AFunction}
use Rattle.fc_types.specs.Before.{Earlier, Function}
use Rattle.fc_types.specs.Views.{function_of}
use Rattle.unfold.specs.declared.count.TheConstants.{MOST_COUNTED}
use Rattle.unfold.specs.Found.{FirstAt, NoneAmong}
use Rattle.unfold.specs.Counting.{Count, count, counts}

-- the first function of a name, with its number; or none of the first so many has it
abbrev pub IsFound : Earlier → ℕ → List ℕ → Option (ℕ × AFunction) → Type 0
IsFound B visible x None = NoneAmong x B.functions visible
IsFound B visible x (Some r) = (y : List ℕ) × FirstAt x B.functions r.0 (function_of y r.1)

-- the counts of the first so many functions
abbrev pub counted : Earlier → ℕ → List Count
counted B n = counts [] (take n B.functions)

-- the number of nodes of the body of a function, by its number
abbrev pub body_count : Earlier → ℕ → Option Function → ℕ
body_count B n None = 0
body_count B n (Some f) = count (counted B n) f.body

-- the numbers of nodes of the first functions, each at most 1,000,000
abbrev pub AreCapped : Earlier → List ℕ → Type 0
AreCapped B ns =
    (j : ℕ) → j < length ns → slice_index ns j ≡ min MOST_COUNTED (body_count B j (slice_get B.functions j))
