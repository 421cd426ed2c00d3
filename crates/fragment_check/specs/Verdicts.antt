-- The verdict on a program, for a number of devices.
use Rattle.std.specs.Prelude.{ℕ, suc, ◌≡◌, ◌-◌, ◌*◌, List, min, Option, Some, None}
use Rattle.std.specs.declared.result.Result.{Result}
use Rattle.std.specs.declared.result.Result.TheVariants.{Ok, Err}
use Rattle.fc_values.specs.BuiltinTypes.{inner}
use Rattle.fc_nodes.specs.Terms.{Evolution, ByRep, ByShare, Term, Evolve, Let, size}
use Rattle.fc_nodes.specs.Subterms.{subterm_at}
use Rattle.fc_nodes.specs.Program.{Unfolding}
use Rattle.fc_nodes.specs.declared.verdicts.Reason.{Reason}
use Rattle.fc_nodes.specs.declared.verdicts.Verdict.{Verdict}
use Rattle.fc_nodes.specs.declared.verdicts.Verdict.TheVariants as verdict
use Rattle.interval_facts.specs.Ranges.{RangeValue, IntRange, full, range_of}
use Rattle.fragment_check.specs.declared.kinds.Pattern.{Pattern}
use Rattle.fragment_check.specs.declared.kinds.Pattern.TheVariants as pattern
use Rattle.fragment_check.specs.Patterns.{JudgedPlace, pattern_of, judged, first_refused, patterns_in}
use Rattle.growth_facts.specs.Turns.{steps_of, rounds_of}
use Rattle.growth_facts.specs.Leads.{least_integer, greatest_integer}
use Rattle.fragment_check.specs.Levels.{Stages, level_of, node_levels}

-- ---- how many levels a pattern adds

-- how many different ranks a potential of this range can have on n devices, less one
abbrev pub ranks : ℕ → RangeValue → ℕ
ranks n r = min n (suc (greatest_integer r - least_integer r)) - 1

-- from a stage to the next one: a `rep` hears of a result one round later than a `share`
abbrev pub stage_rounds : Evolution → ℕ
stage_rounds ByRep = 2
stage_rounds ByShare = 1

-- W has the ranges of binders' variables
abbrev pub added_levels : ℕ → (ℕ → RangeValue) → Evolution → Pattern → ℕ
added_levels n W e pattern.Constant = 0
added_levels n W e (pattern.Acyclic q) = stage_rounds e * ranks n (W q)
added_levels n W e (pattern.Minimising greatest growth) = stage_rounds e * (steps_of greatest growth - 1)
added_levels n W e (pattern.Rising greatest growth rise) = rounds_of greatest growth rise

abbrev pub added_by : ℕ → (ℕ → RangeValue) → Evolution → Result Pattern Reason → ℕ
added_by n W e (Ok a) = added_levels n W e a
added_by n W e (Err r) = 0

-- ---- the same by the places of a program

-- the range of the variable of the binder at a place: for a `let` that of what it binds, for a `rep` all values of the
-- type
abbrev pub bound_range : ℕ → (ℕ → RangeValue) → ℕ → Term → RangeValue
bound_range m R q (Let t a b) = R (suc q)
bound_range m R q (Evolve t e a b) = full m (inner t)
bound_range m R q _ = IntRange 0 m

abbrev pub variable_range : Unfolding → ℕ → RangeValue
variable_range U q = bound_range U.declared.ceiling (range_of U) q (subterm_at q U.main)

abbrev pub added_at : ℕ → (ℕ → RangeValue) → (ℕ → RangeValue) → ℕ → ℕ → Term → ℕ
added_at m R W n p (Evolve t e a b) = added_by n W e (pattern_of m R p (Evolve t e a b))
added_at m R W n p _ = 0

-- what the `rep` or `share` at each place of a program adds to the level of its body, for n devices
abbrev pub stages_of : Unfolding → ℕ → Stages
stages_of U n p = added_at U.declared.ceiling (range_of U) (variable_range U) n p (subterm_at p U.main)

-- ---- the fragment and the verdict

-- what is said of the `rep` or `share` at a place of a program
abbrev pub pattern_at : Unfolding → ℕ → Result Pattern Reason
pattern_at U p = pattern_of U.declared.ceiling (range_of U) p (subterm_at p U.main)

-- what is said of each `rep` and `share` of a program outside the first values, in preorder
abbrev pub judged_of : Unfolding → List JudgedPlace
judged_of U = judged U.declared.ceiling (range_of U) 0 U.main

-- each of them has a pattern
abbrev pub InFragment : Unfolding → Type 0
InFragment U = first_refused (judged_of U) ≡ None

-- they are outside any first value, with their patterns
abbrev pub patterns_of : Unfolding → List (ℕ × Pattern)
patterns_of U = patterns_in (judged_of U)

-- the level of `main`, which no `rep` or `share` is around: the size is the place of no binder
abbrev pub main_level : Unfolding → ℕ → ℕ
main_level U n = level_of (stages_of U n) 0 1 (size U.main) (λ q. 0) U.main

-- the levels of all parts, by their places
abbrev pub levels_of : Unfolding → ℕ → List (Option ℕ)
levels_of U n = node_levels (stages_of U n) 0 1 (size U.main) (λ q. 0) U.main

abbrev pub verdict_by : Option (ℕ × Reason) → ℕ → Verdict
verdict_by (Some (place, why)) level = verdict.No place why
verdict_by None level = verdict.Yes level

-- yes with the level of `main`, or no with the first place that has no pattern and its reason
abbrev pub verdict_of : Unfolding → ℕ → Verdict
verdict_of U n = verdict_by (first_refused (judged_of U)) (main_level U n)
