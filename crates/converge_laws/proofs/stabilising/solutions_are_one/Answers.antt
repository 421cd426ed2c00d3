use Rattle.std.proofs.Common.{refl}
use Rattle.converge_laws.proofs.One.{one_solution}
use Rattle.converge_laws.proofs.stabilising.solutions_are_one.Goals as goal

pub returns : goal.returns
returns c = λ A N net for t p D V F G fr h s r d i. one_solution A N net for t p D V V F G fr (λ q o e j. refl) h s r d i
