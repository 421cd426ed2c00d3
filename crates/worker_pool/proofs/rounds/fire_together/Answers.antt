use Rattle.std.proofs.Common.{◌*◌, ap, refl, subst}
use Rattle.firing_core.specs.Entries.{EntryValue, entries_of}
use Rattle.turn_lock.specs.Passes.{PassView}
use Rattle.export_table.specs.Items.{Opening}
use Rattle.export_table.specs.Holding.{BeginsWithin, EachIsNext}
use Rattle.export_table.specs.Passing.{on_log}
use Rattle.export_table.specs.Turns.{Closes}
use Rattle.worker_pool.specs.Working.{FiredOn}
use Rattle.worker_pool.proofs.Closing.{fired_together}
use Rattle.worker_pool.proofs.Keeping.{rooms_lent, rooms_home, rooms_many}
use Rattle.worker_pool.proofs.Passes.{all_staff}
use Rattle.worker_pool.proofs.rounds.fire_together.Goals as goal

pub returns-clause-fired : goal.returns-clause-fired
returns-clause-fired g c =
    let plan = c.plan_of-plan in
    let turns = plan.result.workers * plan.result.share in
    let crew = c.in_ok-crew in
    let v = on_log c.fan.new.pass in
    let new = c.close-book.result in
    fired_together crew.crew.shared.lock plan.result.rounds turns c.args.most v c.args.book new c.logs_decide.ensures.one plan.ensures.book c.core-core.ensures.book plan.ensures.network plan.ensures.rounds.1
    (subst (λ (u : PassView EntryValue). FiredOn u v) crew.ensures.pass c.fan.ensures.worked.worked.fired)
    (subst (λ (o : Opening). Closes o v new) crew.ensures.opening c.close-book.ensures.closes)
    (subst (λ (o : Opening). BeginsWithin o (entries_of new.log)) crew.ensures.opening c.close-book.ensures.within)
    (subst (λ (o : Opening). EachIsNext o (entries_of new.log)) crew.ensures.opening c.close-book.ensures.next)

pub fan-requires-clause-staffed : goal.fan-requires-clause-staffed
fan-requires-clause-staffed g c κs within =
    let cut = c.split_at_mut-busy in
    let plan = c.plan_of-plan in
    let crew = c.in_ok-crew in
    all_staff crew.crew.shared crew.pass cut.result.0.now plan.result.workers plan.result.share crew.ensures.own
    (rooms_lent c.args.book.program crew.crew.shared.opening.program c.args.rooms.now cut.result.0.now cut.result.1.now
    (ap (λ (o : Opening). o.program) crew.ensures.opening) cut.ensures.value c.requires.rooms)
    (ap (λ (u : PassView EntryValue). u.left) crew.ensures.pass) cut.ensures.front_len plan.ensures.some plan.ensures.few

pub returns-clause-rooms : goal.returns-clause-rooms
returns-clause-rooms g c =
    let cut = c.split_at_mut-busy in
    rooms_home c.args.book.program c.in_ok-crew.crew.shared.opening.program c.args.rooms.now cut.result.0.now cut.result.1.now c.fan.new.rooms
    (ap (λ (o : Opening). o.program) c.in_ok-crew.ensures.opening) cut.ensures.value c.requires.rooms c.fan.ensures.worked.rooms

pub returns-clause-many : goal.returns-clause-many
returns-clause-many g c =
    let cut = c.split_at_mut-busy in
    rooms_many c.args.rooms.now cut.result.0.now cut.result.1.now c.fan.new.rooms cut.result.1.now cut.ensures.value c.fan.ensures.worked.many refl
