use Rattle.std.proofs.Common.{◌+◌, arith}
use Rattle.std.proofs.lemmas.Result.{err_from_is_err_and}
use Rattle.firing_core.proofs.Settling.{read_net, place_within, settled_more, settled_all, settled_some, none_left}
use Rattle.firing_core.proofs.books.Book.settle.Goals as goal

pub bounds-devices-place : goal.bounds-devices-place
bounds-devices-place c =
    place_within c.args.self.now c.loop-place.self c.loop-place.place _ _
    (read_net _ _ _ c.devices-count.result.now c.core.ensures.value c.net.ensures.value c.devices-count.ensures.value c.devices-count.ensures.network)
    (read_net _ _ _ c.devices.result.now c.core-in-loop-place.ensures.value c.net-in-loop-place.ensures.value c.devices.ensures.value c.devices.ensures.network)
    c.loop-place-test.true c.loop-place.invariant.settled

pub bounds-devices-place-in-loop-place : goal.bounds-devices-place-in-loop-place
bounds-devices-place-in-loop-place c = bounds-devices-place c

pub returns-in_err-settle_one-clause-memory : goal.returns-in_err-settle_one-clause-memory
returns-in_err-settle_one-clause-memory c =
    let p = err_from_is_err_and c.from_residual.result c.from_residual.ensures.1 in
    rw (p.1) (settled_some c.args.self.now c.loop-place.self c.settle_one.new.self c.loop-place.place c.loop-place.invariant.settled c.in_err-settle_one.ensures.err)

pub loop-place-preserved : goal.loop-place-preserved
loop-place-preserved c = record {
  settled = settled_more c.args.self.now c.loop-place.self c.settle_one.new.self c.loop-place.place (c.loop-place.place + 1) c.index-devices-place.result _ _
      (read_net _ _ _ c.devices-count.result.now c.core.ensures.value c.net.ensures.value c.devices-count.ensures.value c.devices-count.ensures.network)
      (read_net _ _ _ c.devices.result.now c.core-in-loop-place.ensures.value c.net-in-loop-place.ensures.value c.devices.ensures.value c.devices.ensures.network)
      c.loop-place-test.true (omega arith) c.loop-place.invariant.settled c.in_ok-settle_one.ensures.ok;
}

pub returns-clause-ok : goal.returns-clause-ok
returns-clause-ok c =
    settled_all c.args.self.now c.loop-place.self c.loop-place.place c.devices-count.result.now
    (read_net _ _ _ c.devices-count.result.now c.core.ensures.value c.net.ensures.value c.devices-count.ensures.value c.devices-count.ensures.network)
    (omega arith) c.loop-place.invariant.settled

pub returns-clause-rests : goal.returns-clause-rests
returns-clause-rests c = none_left c.args.self.now c.loop-place.self (returns-clause-ok c)
