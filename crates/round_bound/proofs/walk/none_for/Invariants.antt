use Rattle.std.proofs.Common.{◌≡◌, ◌++◌, None, [], ◌∷◌}
use Rattle.std.specs.List.{repeat}
use Rattle.round_bound.proofs.walk.none_for.Given as goal

abbrev pub invariant-loop-left : goal.invariant-loop-left
invariant-loop-left l = l.levels.items ++ repeat l.left (None ∷ []) ≡ l.fn.levels.items ++ repeat l.fn.count (None ∷ [])

abbrev pub decreases-loop-left : goal.decreases-loop-left
decreases-loop-left l = l.left
