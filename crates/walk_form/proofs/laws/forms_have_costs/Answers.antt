use Rattle.walk_form.proofs.Costing.{some_costs}
use Rattle.walk_form.proofs.Neighbouring.{neighbours}
use Rattle.walk_form.proofs.laws.forms_have_costs.Goals as goal

pub returns : goal.returns
returns c =
    let law = c.neighbours_are_mutual.ensures in
    λ P N k w is net same yes form.
    some_costs c.yes_analyses.ensures c.solutions_are_one.ensures P N k is net same yes w form (c.yes_stabilises.ensures P N k is net same yes).one
    (neighbours N net law.rising law.there law.other law.above law.below law.mutual)
