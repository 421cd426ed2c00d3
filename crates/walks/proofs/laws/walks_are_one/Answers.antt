use Rattle.walks.proofs.Least.{one_least}
use Rattle.walks.proofs.Best.{one_best, best_walks_cost_least, one_trace, some_trace}
use Rattle.walks.proofs.laws.walks_are_one.Goals as goal

pub returns-clause-least : goal.returns-clause-least
returns-clause-least c = one_least

pub returns-clause-best : goal.returns-clause-best
returns-clause-best c = one_best

pub returns-clause-costs : goal.returns-clause-costs
returns-clause-costs c = best_walks_cost_least

pub returns-clause-trace : goal.returns-clause-trace
returns-clause-trace c = one_trace

pub returns-clause-some : goal.returns-clause-some
returns-clause-some c = some_trace
