use Rattle.std.proofs.Common.{◌∙◌, sym, arith}
use Rattle.turn_lock.proofs.Keeping.{drawing, looking_at, entered_at}
use Rattle.turn_lock.proofs.lock.TurnLock.enter.Goals as goal

pub fetch_add-ticket-requires : goal.fetch_add-ticket-requires
fetch_add-ticket-requires g c = (c.requires.own ∙ sym c.self.view_is, omega (arith, c.self.invariant.0), drawing g.T.Logged.list g.T.Logged.answers _ _ _ c.requires.idle.0 c.requires.idle.2 c.requires.some)

pub load-served-requires : goal.load-served-requires
load-served-requires g c = (c.loop.invariant.0 ∙ (c.requires.own ∙ sym c.self.view_is), omega (arith, c.self.invariant.0), looking_at g.T.Logged.list g.T.Logged.answers _ _ _ c.args.seat.now.me.0 _ c.loop.invariant.2 c.requires.idle.2)

pub returns-then-served-ticket-clause-entered : goal.returns-then-served-ticket-clause-entered
returns-then-served-ticket-clause-entered g c = entered_at g.T.Logged.list g.T.Logged.answers 1 c.fetch_add-ticket.result c.load-served.result _ _ c.args.seat.now.me.0 c.loop.invariant.2 c.if-served-ticket.true c.load-served.ensures.2
