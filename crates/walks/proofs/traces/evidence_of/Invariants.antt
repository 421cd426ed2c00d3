use Rattle.std.proofs.Common.{ℕ, List, [], ◌∷◌, ◌++◌, reverse, get_or}
use Rattle.walks.specs.Walks.{costs_of, IsDevice, IsBestWalk}
use Rattle.walks.proofs.traces.evidence_of.Given as goal

-- a best walk to here is continued by what was found so far, from its end
abbrev pub invariant-loop-at : goal.invariant-loop-at
invariant-loop-at l = record {
  device : IsDevice (costs_of l.costs) l.at;
  best : (w : List ℕ) → IsBestWalk (costs_of l.costs) l.at (w ++ l.at ∷ []) → IsBestWalk (costs_of l.costs) l.device (w ++ reverse l.walk.items);
}

abbrev pub decreases-loop-at : goal.decreases-loop-at
decreases-loop-at l = get_or l.values l.at 0
