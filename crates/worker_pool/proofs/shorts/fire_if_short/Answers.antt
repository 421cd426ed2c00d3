use Rattle.std.proofs.Common.{◌<◌, ◌≤◌, subst}
use Rattle.std.proofs.lemmas.Result.{on_ok_weaker}
use Rattle.worker_pool.proofs.OneByOne.{not_short, was_short, place_lives}
use Rattle.worker_pool.proofs.shorts.fire_if_short.Goals as goal

pub returns-then-begun_since-rounds : goal.returns-then-begun_since-rounds
returns-then-begun_since-rounds c = record {
  ok = not_short c.args.front c.args.rounds c.args.place c.args.book.now c.requires.rests (subst (λ k. c.args.rounds ≤ k) c.begun_since.ensures c.if-begun_since-rounds.true);
}

pub fire_alone-requires-clause-there : goal.fire_alone-requires-clause-there
fire_alone-requires-clause-there c = place_lives c.args.book.now.core.net c.args.place c.device_at-device.result c.requires.place c.device_at-device.ensures

pub returns : goal.returns
returns c = record {
  ok = on_ok_weaker c.fire_alone.result
      (λ f. was_short c.args.front c.args.rounds c.args.place c.args.book.now c.fire_alone.new.book c.device_at-device.result c.device_at-device.ensures f
      (subst (λ k. k < c.args.rounds) c.begun_since.ensures c.if-begun_since-rounds.false))
      c.fire_alone.ensures.ok;
}
