use Rattle.fc_nodes.specs.Program.{unfolding_of}
use Rattle.firing_core.proofs.CoreCopies.{copied_next}
use Rattle.firing_core.proofs.snaps.copy_flights.Goals as goal

pub loop-flight-preserved : goal.loop-flight-preserved
loop-flight-preserved c =
    let next = copied_next (unfolding_of c.args.program.now) c.args.flights.now c.loop-flight.flight-index c.flight-item.result c.in_ok-copy_flight.field-0 c.loop-flight.copies.items c.push.new.self.items
    c.loop-flight-test.true c.flight-item.is c.in_ok-push.ensures.items c.in_ok-copy_flight.ensures.same c.in_ok-copy_flight.ensures.snap c.loop-flight.invariant.same c.loop-flight.invariant.copied c.loop-flight.invariant.left in
    record { same = next.same; copied = next.copied; left = next.left }
