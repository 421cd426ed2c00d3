use Rattle.std.proofs.Common.{◌≡◌, []}
use Rattle.turn_lock.specs.declared.views.Stage.TheVariants.{Waits}
use Rattle.turn_lock.specs.Seats.{staged}
use Rattle.turn_lock.proofs.lock.TurnLock.enter.Given as goal

abbrev pub invariant-loop : goal.invariant-loop
invariant-loop g l = (l.seat.table_id ≡ l.fn.seat.table_id) × (l.seat.id ≡ l.fn.seat.id) × (l.seat.me ≡ (staged l.fn.seat.me.0 (Waits l.ticket), []))
