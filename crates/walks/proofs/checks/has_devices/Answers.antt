use Rattle.std.proofs.Common.{ℕ, List, length, arith, sym, ◌∙◌, ap, get_or}
use Rattle.walks.proofs.Claims.{same_numbers, numbers_at}
use Rattle.walks.proofs.checks.has_devices.Goals as goal

pub returns-then-claim-i-clause-not : goal.returns-then-claim-i-clause-not
returns-then-claim-i-clause-not c = λ f h.
    let i = c.loop-i.i in
    let xs = c.args.costs.now.start.items in
    c.if-claim-i.true (numbers_at c.args.claim.now xs h i c.index-claim-i.result (0, 0) (omega (arith, ap (λ (ys : List (ℕ × ℕ)). length ys) c.deref-one-items.ensures.value, c.loop-i-test.true))
    ∙ ap (λ (ys : List (ℕ × ℕ)). (get_or ys i (0, 0)).0) (sym c.deref-one-items.ensures.value))

pub returns-clause-are : goal.returns-clause-are
returns-clause-are c = λ t.
    let xs = c.args.costs.now.start.items in
    same_numbers c.args.claim.now xs (omega arith) (λ k e d l.
    c.loop-i.invariant k e d (omega (arith, ap (λ (ys : List (ℕ × ℕ)). length ys) c.deref-one-items.ensures.value, c.loop-i-test.false))
    ∙ ap (λ (ys : List (ℕ × ℕ)). (get_or ys k d).0) c.deref-one-items.ensures.value)
