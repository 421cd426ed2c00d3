use Rattle.candidate_field.proofs.orders.+add.Given as goal

abbrev pub decreases-add : goal.decreases-add
decreases-add l = l.fuel
