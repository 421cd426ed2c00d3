use Rattle.std.proofs.Common.{◌≡◌, ◌+◌, ◌-◌, ◌/◌, ◌≤◌, ℕ, sym, subst, arith}
use Rattle.turn_lock.specs.Passes.{PassView}
use Rattle.turn_lock.specs.Noting.{Went}
use Rattle.turn_lock.proofs.Fanning.{comes_back, went, went_once}
use Rattle.turn_lock.proofs.notes.+fan.Goals as goal

pub fan-join-requires-clause-name : goal.fan-join-requires-clause-name
fan-join-requires-clause-name g t c =
    let v = c.args.pass.now in
    let half : ℕ = c.args.writers / 2 in
    let w1 = c.fan_both.new.pass in
    let w2 = c.fan_both.new.other in
    let one = subst (λ (u : PassView ℕ). Went u w1 (c.args.writers - half) c.args.note) c.split-other.ensures.kept c.fan_both.ensures.went.0 in
    let other = subst (λ (u : PassView ℕ). Went u w2 half c.args.note) c.split-other.ensures.given c.fan_both.ensures.went.1 in
    comes_back v w1 w2 (c.args.writers - half) half c.args.note one other

pub fan-returns : goal.fan-returns
fan-returns g t c =
    let v = c.args.pass.now in
    let half : ℕ = c.args.writers / 2 in
    let w1 = c.fan_both.new.pass in
    let w2 = c.fan_both.new.other in
    let one = subst (λ (u : PassView ℕ). Went u w1 (c.args.writers - half) c.args.note) c.split-other.ensures.kept c.fan_both.ensures.went.0 in
    let other = subst (λ (u : PassView ℕ). Went u w2 half c.args.note) c.split-other.ensures.given c.fan_both.ensures.went.1 in
    let less : half ≤ c.args.writers = omega arith in
    let fits : half ≤ v.left = omega (arith, c.requires.some.0, less) in
    let sum : (c.args.writers - half) + half ≡ c.args.writers = omega (arith, less) in
    record { went = subst (λ n. Went v c.join.new.pass n c.args.note) sum (went v w1 w2 c.join.new.pass (c.args.writers - half) half c.args.note c.split-other.ensures.below.0 c.join.ensures.seen.0 fits one other c.join.ensures.joined) }

pub fan-returns-then-writers-eq1 : goal.fan-returns-then-writers-eq1
fan-returns-then-writers-eq1 g t c =
    let once = went_once c.args.pass.now c.write.new.pass c.args.note (omega (arith, c.requires.some.0, c.requires.some.1)) c.write.ensures.noted in
    record { went = subst (λ n. Went c.args.pass.now c.write.new.pass n c.args.note) (sym c.if-writers-eq1.true) once }
