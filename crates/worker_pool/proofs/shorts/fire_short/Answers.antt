use Rattle.std.proofs.Common.{length, ap, arith}
use Rattle.topology.specs.Networks.{Network}
use Rattle.worker_pool.proofs.OneByOne.{shorts_none, shorts_net, shorts_past, shorts_more, shorts_all}
use Rattle.worker_pool.proofs.shorts.fire_short.Goals as goal

pub loop-place-init : goal.loop-place-init
loop-place-init c = record { shorts = shorts_none c.args.front c.args.rounds c.args.book.now c.requires.rests }

pub fire_if_short-requires-clause-front : goal.fire_if_short-requires-clause-front
fire_if_short-requires-clause-front c = shorts_past c.args.front c.args.rounds c.args.book.now c.loop-place.book c.loop-place.place c.requires.front c.loop-place.invariant.shorts

pub fire_if_short-requires-clause-place : goal.fire_if_short-requires-clause-place
fire_if_short-requires-clause-place c =
    let n = ap (λ (k : Network). length k.devices) (shorts_net c.args.front c.args.rounds c.args.book.now c.loop-place.book c.loop-place.place c.loop-place.invariant.shorts) in
    let t = c.loop-place-test.true in let k = c.device_count-count.ensures.count in
    omega (arith, n, t, k)

pub fire_if_short-requires-clause-rests : goal.fire_if_short-requires-clause-rests
fire_if_short-requires-clause-rests c = c.loop-place.invariant.shorts.rests

pub loop-place-preserved : goal.loop-place-preserved
loop-place-preserved c =
    let t = c.loop-place-test.true in let k = c.device_count-count.ensures.count in
    record {
      shorts = shorts_more c.args.front c.args.rounds c.args.book.now c.loop-place.book c.fire_if_short.new.book c.loop-place.place c.device_count-count.ensures.network c.requires.ordered c.requires.greatest
          c.requires.front (omega (arith, t, k)) c.loop-place.invariant.shorts c.in_ok-fire_if_short.ensures.ok;
    }

pub returns : goal.returns
returns c =
    let k = c.device_count-count.ensures.count in
    record { ok = shorts_all c.args.front c.args.rounds c.args.book.now c.loop-place.book c.loop-place.place (omega arith) c.loop-place.invariant.shorts }
