use Rattle.std.proofs.Common.{◌∙◌, ap, ◌++◌, ◌-◌, None, [], ◌∷◌, List, Option, ℕ}
use Rattle.std.specs.List.{repeat}
use Rattle.round_bound.proofs.NodeSteps.{one_none}
use Rattle.round_bound.proofs.walk.none_for.Goals as goal

pub loop-left-preserved : goal.loop-left-preserved
loop-left-preserved c =
    ap (λ (l : List (Option ℕ)). l ++ repeat (c.loop-left.left - 1) (None ∷ [])) c.in_ok-push.ensures.items ∙ one_none c.loop-left.levels.items c.loop-left.left c.loop-left-test.true ∙ c.loop-left.invariant
