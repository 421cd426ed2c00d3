use Rattle.std.proofs.Common.{◌≤◌, ◌/◌, sym, subst, arith}
use Rattle.std.proofs.lemmas.Nat.{le-div}
use Rattle.settle_rounds.proofs.limits.growing_cap.Goals as goal

pub returns-clause-some : goal.returns-clause-some
returns-clause-some c l = subst (λ m. 1 ≤ m / c.args.devices) (sym c.from.ensures)
    (le-div 1 1000000 c.args.devices (omega (arith, c.requires)) (omega (arith, l)))
