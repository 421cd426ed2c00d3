use Rattle.std.proofs.Common.{◌≡◌, ◌≤◌, ◌<◌, ◌+◌, ◌*◌, ◌/◌, ℕ, max, Bool, true, false, nat_le, refl, ap, ◌∙◌, arith}
use Rattle.std.proofs.lemmas.Bool.{leb-true, leb-false}
use Rattle.std.proofs.Math.Nat.{add-mul, mul-le-mul_right, mul-le-mul_left}
use Rattle.worker_pool.proofs.plans.plan_of.Goals as goal

-- the firings of a table
at_once : (devices rounds : ℕ) → 1 ≤ devices → devices ≤ 1024 → rounds ≤ max (32768 / devices) 1 → devices * rounds ≤ 32768
at_once devices rounds some few within = by_test (nat_le rounds 1) refl
  where
    by_test : (b : Bool) → nat_le rounds 1 ≡ b → devices * rounds ≤ 32768
    by_test true q = let l = leb-true rounds 1 q in let m : devices * rounds ≤ devices * 1 = mul-le-mul_left devices l in omega (arith, m, few)
    by_test false q =
        let l = leb-false rounds 1 q in let k : rounds ≤ 32768 / devices = omega (arith, l, within) in
        let m : devices * rounds ≤ devices * (32768 / devices) = mul-le-mul_left devices k in omega (arith, m, some)

share : (workers devices rounds : ℕ) → workers ≤ 16 → 1 ≤ devices → devices * rounds ≤ 32768 → workers * (2 * devices * rounds + rounds + 2) < 2147483648
share workers devices rounds few some firings =
    let l : 1 * rounds ≤ devices * rounds = mul-le-mul_right rounds some in
    let t : 2 * devices * rounds ≡ 2 * (devices * rounds) = ap (λ k. k * rounds) (omega arith) ∙ (add-mul devices devices rounds ∙ omega arith) in
    let m : workers * (2 * devices * rounds + rounds + 2) ≤ 16 * (2 * devices * rounds + rounds + 2) = mul-le-mul_right (2 * devices * rounds + rounds + 2) few in
    omega (arith, l, m, t, firings)

pub returns-clause-few : goal.returns-clause-few
returns-clause-few c =
    let n = c.device_count-devices.ensures.network in
    let k = c.device_count-devices.ensures.count in
    let a = n.some in let b = n.few in
    let some : 1 ≤ c.device_count-devices.result = omega (arith, a, k) in
    share c.min.result c.device_count-devices.result c.min-rounds.result (omega arith) some (at_once c.device_count-devices.result c.min-rounds.result some (omega (arith, b, k)) (omega arith))
