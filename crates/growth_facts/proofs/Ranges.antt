-- The range at a place.
use Rattle.std.proofs.Common.{◌≡◌, ℕ, List, get_or, ◌∙◌, ap}
use Rattle.fc_nodes.specs.Program.{Unfolding}
use Rattle.interval_facts.specs.Ranges.{RangeValue, BoolRange, range_of, AreRangesOf}
use Rattle.growth_facts.specs.Leads.{least_integer}

pub least_there : (U : Unfolding) (rs : List RangeValue) → AreRangesOf U rs → (p : ℕ) (r : RangeValue) → r ≡ get_or rs p BoolRange → least_integer r ≡ least_integer (range_of U p)
least_there U rs h p r e = ap least_integer (e ∙ ap (λ xs. get_or xs p BoolRange) h)
