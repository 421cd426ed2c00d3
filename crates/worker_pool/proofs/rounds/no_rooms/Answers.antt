use Rattle.std.proofs.Common.{◌≡◌, ◌∙◌, subst, sym, rules, arith}
use Rattle.worker_pool.specs.Working.{AreRooms}
use Rattle.worker_pool.proofs.Keeping.{rooms_more}
use Rattle.worker_pool.proofs.rounds.no_rooms.Goals as goal

pub returns-clause-rooms : goal.returns-clause-rooms
returns-clause-rooms c = c.loop.invariant.rooms

pub returns-clause-many : goal.returns-clause-many
returns-clause-many c = let e : c.loop.counter ≡ c.args.workers = omega arith in c.loop.invariant.many ∙ e

pub loop-preserved : goal.loop-preserved
loop-preserved c = record {
  many = search (rules, arith);
  rooms = λ U. subst (AreRooms U) {y = c.push.new.self.items} (sym c.in_ok-push.ensures.items) (rooms_more U c.loop.rooms.items (c.loop.invariant.rooms U));
}
