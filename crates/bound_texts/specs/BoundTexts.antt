-- The texts of bounds: between which values each device stays, and after how many rounds.
use Rattle.std.specs.Prelude.{ℕ, Bool, true, false, max, nat_eq, if◌then◌else◌}
use Rattle.std.specs.Prelude.{List, [], ◌∷◌, ◌++◌, flat_map, codes, Option, Some, None}
use Rattle.std.specs.Fmt.{decimal}
use Rattle.value_bounds.specs.BoundValues.{BoundValue, Between, Truths, Both, Unbounded}

-- a bound: the value where one is left; else the least and the greatest integer, `any` of truth values, and of pairs
-- the bounds of both components
abbrev pub bound_text : BoundValue → List ℕ
bound_text (Between least greatest) =
    if nat_eq least greatest then decimal least else decimal least ++ codes ".." ++ decimal greatest
bound_text (Truths true true) = codes "true"
bound_text (Truths false false) = codes "false"
bound_text (Truths must may) = codes "any"
bound_text (Both a b) = codes "(" ++ bound_text a ++ codes "," ++ bound_text b ++ codes ")"
bound_text Unbounded = codes "any"

-- what is said of a device: its bound, and after how many rounds it has it; its bound before any round, where that is
-- asked for; and whether it may be away
pub record BoundLine : Type 0 where
  pub device : ℕ
  pub rounds : ℕ
  pub bound : BoundValue
  pub before : Option BoundValue
  pub away : Bool

-- a bound after a space
abbrev pub bound_after_space : BoundValue → List ℕ
bound_after_space b = codes " " ++ bound_text b

abbrev pub before_text : Option BoundValue → List ℕ
before_text None = []
before_text (Some b) = bound_after_space b

abbrev pub away_text : Bool → List ℕ
away_text true = codes " away"
away_text false = []

-- the line of a device
abbrev pub bound_line_text : BoundLine → List ℕ
bound_line_text l =
    decimal l.device ++ codes " " ++ decimal l.rounds ++ bound_after_space l.bound ++ before_text l.before
    ++ away_text l.away ++ codes "\n"

-- the greatest number of rounds of a device
abbrev pub most_rounds : List BoundLine → ℕ
most_rounds [] = 0
most_rounds (l ∷ ls) = max l.rounds (most_rounds ls)

-- the line of a number of rounds
abbrev pub within_text : ℕ → List ℕ
within_text rounds = codes "within " ++ decimal rounds ++ codes "\n"

-- the line of the greatest number of rounds, and a line for each device
abbrev pub lines_text : List BoundLine → List ℕ
lines_text ls = within_text (most_rounds ls) ++ flat_map bound_line_text ls
