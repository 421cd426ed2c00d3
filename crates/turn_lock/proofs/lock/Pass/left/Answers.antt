use Rattle.std.proofs.Common.{subst}
use Rattle.turn_lock.specs.Passes.{IsBelow, PassView}
use Rattle.turn_lock.proofs.lock.Pass.left.Goals as goal

pub returns-clause-below : goal.returns-clause-below
returns-clause-below g c = subst (λ (u : PassView _). IsBelow u) c.self.view_is c.self.invariant.1.below
