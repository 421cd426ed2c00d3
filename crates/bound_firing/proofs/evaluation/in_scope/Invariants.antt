use Rattle.std.proofs.Common.{◌≡◌, length}
use Rattle.bound_firing.specs.Firing.{variable_bound}
use Rattle.bound_firing.specs.Contexts.{vars_in}
use Rattle.bound_firing.proofs.evaluation.in_scope.Given as goal

abbrev pub invariant-loop-scope : goal.invariant-loop-scope
invariant-loop-scope l = variable_bound l.binder (vars_in l.scope) ≡ variable_bound l.binder (vars_in l.vars)

abbrev pub decreases-loop-scope : goal.decreases-loop-scope
decreases-loop-scope l = length (vars_in l.scope)
