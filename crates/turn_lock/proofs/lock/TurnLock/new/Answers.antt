use Rattle.turn_lock.proofs.Keeping.{opens}
use Rattle.turn_lock.proofs.lock.TurnLock.new.Goals as goal

pub new-requires : goal.new-requires
new-requires g c = rw (c.push_reserved.ensures.items, c.reserve.ensures.items, c.new-slots.ensures.items, c.of.ensures) (opens g.T.Logged.list g.T.Logged.answers c.args.value c.args.turns c.requires.few)
