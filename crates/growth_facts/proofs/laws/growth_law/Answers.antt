use Rattle.growth_facts.proofs.Law as law
use Rattle.growth_facts.proofs.laws.growth_law.Goals as goal

pub returns : goal.returns
returns c = law.growth_law
