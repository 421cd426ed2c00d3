use Rattle.walk_form.proofs.Costing.{solution_least}
use Rattle.walk_form.proofs.Neighbouring.{neighbours}
use Rattle.walk_form.proofs.laws.solutions_are_least.Goals as goal

pub returns : goal.returns
returns c =
    let law = c.neighbours_are_mutual.ensures in
    λ P N k C F is net.
    solution_least c.yes_analyses.ensures c.solutions_are_one.ensures c.fields_are_read.ensures.pointwise c.fixed_values_are_least.ensures P N k C F
    (neighbours N net law.rising law.there law.other law.above law.below law.mutual) is net
