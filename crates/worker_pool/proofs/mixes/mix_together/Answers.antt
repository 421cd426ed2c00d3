use Rattle.std.proofs.Common.{◌+◌, ◌-◌, ◌*◌, ◌∙◌, ap, refl, subst, arith, IfErr}
use Rattle.firing_core.specs.Entries.{EntryValue, edit_of, entries_of}
use Rattle.turn_lock.specs.Passes.{PassView}
use Rattle.export_table.specs.Items.{Opening}
use Rattle.export_table.specs.Holding.{BeginsWithin, EachIsNext}
use Rattle.export_table.specs.Passing.{on_log}
use Rattle.export_table.specs.Turns.{Began, Rested, Closes}
use Rattle.worker_pool.specs.Working.{FiredOn}
use Rattle.worker_pool.specs.Mixing.{WentOn, EditedThenEnded, Stopped}
use Rattle.worker_pool.proofs.Keeping.{rooms_lent, rooms_home, rooms_many}
use Rattle.worker_pool.proofs.Mixing.{never_rests, mixed_together}
use Rattle.worker_pool.proofs.Refusing.{not_stopped}
use Rattle.worker_pool.proofs.Passes.{comes_back, all_staff}
use Rattle.worker_pool.proofs.Turns.{may_mix}
use Rattle.worker_pool.proofs.mixes.mix_together.Goals as goal

pub begin_first-requires-clause-never : goal.begin_first-requires-clause-never
begin_first-requires-clause-never g c w b r =
    let turns = c.plan_of-plan.result.workers * c.plan_of-plan.result.share + 3 in
    never_rests c.in_ok-crew.crew.shared.lock turns c.args.book c.logs_decide.ensures.one c.plan_of-plan.ensures.book w b c.requires.rests c.plan_of-plan.ensures.network
    (subst (λ (z : Opening × PassView EntryValue). Rested z.0 z.1 w b) (λ i. (c.in_ok-crew.ensures.opening i, c.in_ok-crew.ensures.pass i)) r)

pub edit_among-mixed-requires-clause-may : goal.edit_among-mixed-requires-clause-may
edit_among-mixed-requires-clause-may g c κs within =
    let crew = c.in_ok-crew in
    let given = c.plan_of-plan.result.workers * c.plan_of-plan.result.share in
    let v1 = on_log c.begin_first.new.pass in
    may_mix crew.crew.shared c.split-other.new.pass v1 c.in-Ok.firing c.args.edit given c.args.book.program c.split-other.ensures.own.0
    (c.begin_first.ensures.after.left ∙ (ap (λ (u : PassView EntryValue). u.left - 1) crew.ensures.pass ∙ omega arith))
    (ap (λ (o : Opening). o.program) crew.ensures.opening) _ c.requires.fits c.in-Ok.ensures.may_end c.split-other.ensures.kept

pub edit_among-mixed-requires-clause-staffed : goal.edit_among-mixed-requires-clause-staffed
edit_among-mixed-requires-clause-staffed g c κs within =
    let cut = c.split_at_mut-busy in
    let plan = c.plan_of-plan in
    let crew = c.in_ok-crew in
    all_staff crew.crew.shared c.split-other.result cut.result.0.now plan.result.workers plan.result.share c.split-other.ensures.own.1
    (rooms_lent c.args.book.program crew.crew.shared.opening.program c.args.rooms.now cut.result.0.now cut.result.1.now
    (ap (λ (o : Opening). o.program) crew.ensures.opening) cut.ensures.value c.requires.rooms)
    (ap (λ (u : PassView EntryValue). u.left) c.split-other.ensures.given) cut.ensures.front_len plan.ensures.some plan.ensures.few

pub returns-in-Ok-mixed-clause-mixed : goal.returns-in-Ok-mixed-clause-mixed
returns-in-Ok-mixed-clause-mixed g c =
    let given = c.plan_of-plan.result.workers * c.plan_of-plan.result.share in
    let e = edit_of c.args.edit in
    let f = c.in-Ok.firing in
    let crew = c.in_ok-crew in
    let v1 = on_log c.begin_first.new.pass in
    let v3 = on_log c.edit_among-mixed.new.pass in
    let u1 = on_log c.edit_among-mixed.new.other in
    let v4 = on_log c.join.new.pass in
    let new = c.close-book.result in
    mixed_together crew.crew.shared.lock (given + 3) given c.args.book new e f v1 v3 u1 v4 c.logs_decide.ensures.one c.plan_of-plan.ensures.book c.core-core.ensures.book c.plan_of-plan.ensures.network c.requires.rests
    c.requires.mixed
    (subst (λ (z : Opening × PassView EntryValue). Began z.0 z.1 v1 f) (λ i. (crew.ensures.opening i, crew.ensures.pass i)) c.in-Ok.ensures.began)
    (subst (λ (z : Opening × PassView EntryValue). EditedThenEnded z.0 z.1 v3 e f.snap.device) (λ i. (crew.ensures.opening i, c.split-other.ensures.kept i)) c.in-Ok-mixed.ensures.mixed.mixed)
    (subst (λ (u : PassView EntryValue). FiredOn u u1) c.split-other.ensures.given c.edit_among-mixed.ensures.worked.worked.fired)
    c.join.ensures.joined c.join.ensures.seen.0
    (subst (λ (o : Opening). Closes o v4 new) crew.ensures.opening c.close-book.ensures.closes)
    (subst (λ (o : Opening). BeginsWithin o (entries_of new.log)) crew.ensures.opening c.close-book.ensures.within)
    (subst (λ (o : Opening). EachIsNext o (entries_of new.log)) crew.ensures.opening c.close-book.ensures.next)

pub join-requires-clause-name : goal.join-requires-clause-name
join-requires-clause-name g c =
    let given = c.plan_of-plan.result.workers * c.plan_of-plan.result.share in
    let v1 = on_log c.begin_first.new.pass in
    let w1 = on_log c.edit_among-mixed.new.pass in
    let w2 = on_log c.edit_among-mixed.new.other in
    let went = subst (λ (u : PassView EntryValue). WentOn u w1) c.split-other.ensures.kept c.edit_among-mixed.ensures.mixed.went in
    comes_back v1 w1 w2 given went.name went.out (subst (λ (u : PassView EntryValue). FiredOn u w2) c.split-other.ensures.given c.edit_among-mixed.ensures.worked.worked.fired)

pub returns-in-Ok-mixed-clause-rooms : goal.returns-in-Ok-mixed-clause-rooms
returns-in-Ok-mixed-clause-rooms g c =
    let cut = c.split_at_mut-busy in
    rooms_home c.args.book.program c.in_ok-crew.crew.shared.opening.program c.args.rooms.now cut.result.0.now cut.result.1.now c.edit_among-mixed.new.rooms
    (ap (λ (o : Opening). o.program) c.in_ok-crew.ensures.opening) cut.ensures.value c.requires.rooms c.edit_among-mixed.ensures.worked.rooms

pub returns-in-Err-Memory-clause-rooms : goal.returns-in-Err-Memory-clause-rooms
returns-in-Err-Memory-clause-rooms g c =
    let cut = c.split_at_mut-busy in
    rooms_home c.args.book.program c.in_ok-crew.crew.shared.opening.program c.args.rooms.now cut.result.0.now cut.result.1.now c.edit_among-mixed.new.rooms
    (ap (λ (o : Opening). o.program) c.in_ok-crew.ensures.opening) cut.ensures.value c.requires.rooms c.edit_among-mixed.ensures.worked.rooms

pub returns-in-Ok-mixed-clause-many : goal.returns-in-Ok-mixed-clause-many
returns-in-Ok-mixed-clause-many g c =
    let cut = c.split_at_mut-busy in
    rooms_many c.args.rooms.now cut.result.0.now cut.result.1.now c.edit_among-mixed.new.rooms cut.result.1.now cut.ensures.value c.edit_among-mixed.ensures.worked.many refl

pub returns-in-Err-Memory-clause-many : goal.returns-in-Err-Memory-clause-many
returns-in-Err-Memory-clause-many g c =
    let cut = c.split_at_mut-busy in
    rooms_many c.args.rooms.now cut.result.0.now cut.result.1.now c.edit_among-mixed.new.rooms cut.result.1.now cut.ensures.value c.edit_among-mixed.ensures.worked.many refl

-- the core allowed the edit, and the log that is known now has no other
pub unreachable-requires : goal.unreachable-requires
unreachable-requires g c =
    let given = c.plan_of-plan.result.workers * c.plan_of-plan.result.share in
    let e = edit_of c.args.edit in
    let crew = c.in_ok-crew in
    let v1 = on_log c.begin_first.new.pass in
    let v3 = on_log c.edit_among-mixed.new.pass in
    let u1 = on_log c.edit_among-mixed.new.other in
    let v4 = on_log c.join.new.pass in
    let new = c.close-book.result in
    let f = c.in-Ok.firing in
    not_stopped crew.crew.shared.lock (given + 3) given c.args.book new e c.edit_among-mixed.result c.in-Err-Net.field-0 c.in-Err-Net.field-0-0 f v1 v3 u1 v4 c.in-Err-Net.is (rw c.in-Err-Net.is at c.in-Err-Net.field-0-is)
    c.logs_decide.ensures.one c.plan_of-plan.ensures.book c.requires.mixed c.requires.allowed
    (subst (λ (z : Opening × PassView EntryValue). Began z.0 z.1 v1 f) (λ i. (crew.ensures.opening i, crew.ensures.pass i)) c.in-Ok.ensures.began)
    (subst (λ (z : Opening × PassView EntryValue). IfErr c.edit_among-mixed.result (Stopped z.0 z.1 v3 e)) (λ i. (crew.ensures.opening i, c.split-other.ensures.kept i)) c.edit_among-mixed.ensures.mixed.stopped)
    (subst (λ (u : PassView EntryValue). FiredOn u u1) c.split-other.ensures.given c.edit_among-mixed.ensures.worked.worked.fired)
    c.join.ensures.joined c.join.ensures.seen.0
    (subst (λ (o : Opening). Closes o v4 new) crew.ensures.opening c.close-book.ensures.closes)
