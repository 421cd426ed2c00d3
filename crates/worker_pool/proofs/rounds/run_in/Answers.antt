use Rattle.std.proofs.Common.{ℕ, ◌≡◌, ◌≤◌, ◌∙◌, ◌-◌, ◌+◌, refl, subst, sym, arith}
use Rattle.firing_core.specs.Stretches.{RanRounds}
use Rattle.worker_pool.proofs.Keeping.{rooms_of_same}
use Rattle.worker_pool.proofs.Stretching.{rounds_more, settled}
use Rattle.worker_pool.proofs.rounds.run_in.Goals as goal

rest_is : (rounds left ran : ℕ) → left ≤ rounds → ran ≤ left → (rounds - left) + ran ≡ rounds - (left - ran)
rest_is rounds left ran a b = omega (arith, a, b)

rest_within : (rounds left ran : ℕ) → left ≤ rounds → left - ran ≤ rounds
rest_within rounds left ran a = omega (arith, a)

pub loop-left-init : goal.loop-left-init
loop-left-init g c =
    let none : 0 ≡ c.args.rounds - c.args.rounds = omega arith in
    record {
      within = omega arith;
      ran = subst (λ k. RanRounds c.args.book k c.settle.new.self) none (settled c.args.book c.settle.new.self c.in_ok-settle.ensures.ok c.in_ok-settle.ensures.rests);
      rooms = c.requires.rooms;
      many = refl;
    }

pub some_rounds-requires-clause-rooms : goal.some_rounds-requires-clause-rooms
some_rounds-requires-clause-rooms g c κs within =
    rooms_of_same c.args.book.program c.loop-left.book.program c.loop-left.rooms (sym c.loop-left.invariant.ran.program) c.loop-left.invariant.rooms

pub loop-left-preserved : goal.loop-left-preserved
loop-left-preserved g c =
    let i = c.loop-left.invariant in
    let some = c.in_ok-grown.ensures.some in
    let many : (c.args.rounds - c.loop-left.left) + c.in_ok-grown.ran ≡ c.args.rounds - (c.loop-left.left - c.in_ok-grown.ran) = rest_is c.args.rounds c.loop-left.left c.in_ok-grown.ran i.within some.1 in
    record {
      within = rest_within c.args.rounds c.loop-left.left c.in_ok-grown.ran i.within;
      ran = subst (λ k. RanRounds c.args.book k c.in_ok-grown.grown) many
          (rounds_more c.args.book c.loop-left.book c.in_ok-grown.grown (c.args.rounds - c.loop-left.left) c.in_ok-grown.ran i.ran c.in_ok-grown.ensures.ran);
      rooms = rooms_of_same c.loop-left.book.program c.args.book.program c.some_rounds.new.rooms i.ran.program c.some_rounds.ensures.rooms;
      many = c.some_rounds.ensures.many ∙ i.many;
    }

pub returns : goal.returns
returns g c =
    let e : c.args.rounds - c.loop-left.left ≡ c.args.rounds = omega arith in
    record { ran = subst (λ k. RanRounds c.args.book k c.loop-left.book) e c.loop-left.invariant.ran }
