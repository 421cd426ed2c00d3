use Rattle.interval_facts.proofs.Root.{solution_lies}
use Rattle.interval_facts.proofs.laws.solutions_lie_in_ranges.Goals as goal

pub returns : goal.returns
returns c = solution_lies
