-- What the laws say.
use Rattle.std.specs.Prelude.{ℕ, true, false, ◌≡◌, ◌∷◌}
use Rattle.std.specs.declared.result.Result.TheVariants.{Ok, Err}
use Rattle.fc_values.specs.Types.{LocalType, Declarations}
use Rattle.fc_nodes.specs.declared.verdicts.Reason.{Reason}
use Rattle.fc_nodes.specs.Typing.{Scope, HasType, evolving_type}
use Rattle.fc_nodes.specs.Terms.{Evolution, Term}
use Rattle.fc_nodes.specs.Variables.{occurs}
use Rattle.interval_facts.specs.Ranges.{RangeValue}
use Rattle.fragment_check.specs.declared.kinds.Pattern.{Pattern}
use Rattle.fragment_check.specs.Patterns.{body_pattern, is_nested}
use Rattle.fragment_check.specs.Levels.{Stages, Lvs, level_of, parts, greatest_level}
use Rattle.fragment_check.specs.Shapes.{HasPattern}

-- a well-typed body whose pattern is found has the shape that the pattern names
abbrev pub PatternsHaveShapes : Type 0
PatternsHaveShapes =
    (D : Declarations) (scope : Scope) (m : ℕ) (R : ℕ → RangeValue) (e : Evolution) (x p : ℕ) (s : LocalType)
    → (u : Term) (a : Pattern) → HasType D ((x, evolving_type e s) ∷ scope) p u → body_pattern m R e x p u ≡ Ok a
    → HasPattern m R e x p s u a

-- A body for which a reason is found has the shape of no pattern, well-typed or not. So of a well-typed body a reason
-- is found exactly where it has no shape.
abbrev pub ReasonsHaveNoShape : Type 0
ReasonsHaveNoShape =
    (m : ℕ) (R : ℕ → RangeValue) (e : Evolution) (x p : ℕ) (s : LocalType) (u : Term) (r : Reason)
    → body_pattern m R e x p u ≡ Err r → (a : Pattern) → HasPattern m R e x p s u a → ⊥

-- The level of a body at place p that has its variable x and isn't `nested` is the greatest of b + 1 and the levels of
-- its parts. Each body whose pattern isn't constant is such a one.
abbrev pub LevelsOfBodies : Type 0
LevelsOfBodies =
    (K : Stages) (p b x : ℕ) (lv : Lvs) (e : Evolution) (u : Term) → occurs x u ≡ true → is_nested e x u ≡ false
    → level_of K p b x lv u ≡ greatest_level K b x lv (parts x p u)
