use Rattle.std.proofs.Common.{subst}
use Rattle.firing_core.specs.Cores.{IsGood}
use Rattle.firing_core.specs.CoreViews.{CoreValue, core_of, program_of}
use Rattle.firing_core.proofs.Views.{good_of}
use Rattle.firing_core.proofs.cores.Core.net.Goals as goal

pub returns-clause-good : goal.returns-clause-good
returns-clause-good c = let P : CoreValue → Type 0 = λ v. IsGood (program_of v) (core_of v) in subst P c.self.view_is (good_of _ c.self.invariant)
