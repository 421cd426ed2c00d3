use mir.Syntax.{named}
use denote.Exit.{no}
use denote.Param.{param}
use denote.Param.Send.{AllSend, sendable, param_send}
use Rattle.std.proofs.Common.{◌*◌, ◌/◌, length, ap, subst, arith}
use Rattle.fc_nodes.specs.Program.{unfolding_of}
use Rattle.turn_lock.specs.Passes.{PassView}
use Rattle.firing_core.specs.Entries.{EntryValue}
use Rattle.export_table.specs.Passing.{on_log}
use Rattle.worker_pool.specs.Working.{FiredOn}
use Rattle.worker_pool.proofs.Passes.{comes_back, fired_joined, share_of_half, at_least_two, kept_staff, given_staff}
use Rattle.export_table.proofs.Crosses.{pass_send}
use Rattle.export_table.proofs.Captures.{captures_send}
use Rattle.worker_pool.proofs.Keeping.{rooms_both, rooms_many}
use Rattle.worker_pool.proofs.Crosses.{rooms_send, crew_sync}
use Rattle.worker_pool.proofs.fan.+fan.Lts-both as closure
use Rattle.worker_pool.proofs.fan.+fan.Goals as goal

-- any symbol serves as the name of the captures
pub both-join_mut-requires-send-F : goal.both-join_mut-requires-send-F
both-join_mut-requires-send-F g t c κs within =
    let rt = c.requires.sync.0 in
    let crew = crew_sync (record { mir = named 10; lft = κs.1.1.1.1.1.1.1.1.1.1.0 }) (param 1 g.row.G) c.requires.sync.1 in
    let all : AllSend (closure.of-10 g.row.R g.row.G g.R.laws g.G.laws g.R.Threads-dict g.R.Wait-dict g.G.Gate-dict (record { mir = named 8; lft = κs.1.1.1.1.1.1.1.1.0 }) (record { mir = named 9; lft = κs.1.1.1.1.1.1.1.1.1.0 }) (record { mir = named 10; lft = κs.1.1.1.1.1.1.1.1.1.1.0 }) (record { mir = named 11; lft = κs.1.1.1.1.1.1.1.1.1.1.1.0 }) (record { mir = named 12; lft = κs.1.1.1.1.1.1.1.1.1.1.1.1.0 }) (record { mir = named 13; lft = κs.1.1.1.1.1.1.1.1.1.1.1.1.1.0 })) =
    (search (rt, sendable), (search (crew, sendable), (search (pass_send, sendable), (search (rooms_send, sendable), (search sendable, tt))))) in
    let one = captures_send (closure.name-0 g.row.R g.row.G g.R.laws g.G.laws g.R.Threads-dict g.R.Wait-dict g.G.Gate-dict) (closure.of-10 g.row.R g.row.G g.R.laws g.G.laws g.R.Threads-dict g.R.Wait-dict g.G.Gate-dict (record { mir = named 8; lft = κs.1.1.1.1.1.1.1.1.0 }) (record { mir = named 9; lft = κs.1.1.1.1.1.1.1.1.1.0 }) (record { mir = named 10; lft = κs.1.1.1.1.1.1.1.1.1.1.0 }) (record { mir = named 11; lft = κs.1.1.1.1.1.1.1.1.1.1.1.0 }) (record { mir = named 12; lft = κs.1.1.1.1.1.1.1.1.1.1.1.1.0 }) (record { mir = named 13; lft = κs.1.1.1.1.1.1.1.1.1.1.1.1.1.0 })) all in
    param_send 1 (closure.arg-0-1 g.row.R g.row.G g.R.laws g.G.laws g.R.Threads-dict g.R.Wait-dict g.G.Gate-dict κs) (record { owned = one.owned; leaving = λ _. one.leaving no })

pub fan-overflow_mul-half : goal.fan-overflow_mul-half
fan-overflow_mul-half g t c = let l = share_of_half (length c.args.rooms.now) c.args.share in let f = c.requires.staffed.few in omega (arith, l, f)

pub fan-both-requires-clause-first : goal.fan-both-requires-clause-first
fan-both-requires-clause-first g t c κs within =
    let cut = c.split_at_mut-others in
    kept_staff c.args.crew.now.shared c.args.pass.now c.split-other.new.pass c.args.rooms.now cut.result.0.now cut.result.1.now c.args.share c.requires.staffed c.split-other.ensures.own.0
    (ap (λ (u : PassView EntryValue). u.left) c.split-other.ensures.kept) cut.ensures.value cut.ensures.back_len

pub fan-both-requires-clause-second : goal.fan-both-requires-clause-second
fan-both-requires-clause-second g t c κs within =
    let cut = c.split_at_mut-others in
    given_staff c.args.crew.now.shared c.args.pass.now c.split-other.result c.args.rooms.now cut.result.0.now cut.result.1.now c.args.share c.requires.staffed c.split-other.ensures.own.1
    (ap (λ (u : PassView EntryValue). u.left) c.split-other.ensures.given) cut.ensures.value cut.ensures.front_len
    (at_least_two (length c.args.rooms.now) c.requires.staffed.some c.if-rooms-eq1.false)

pub fan-join-requires-clause-name : goal.fan-join-requires-clause-name
fan-join-requires-clause-name g t c =
    let v = on_log c.args.pass.now in
    let share = length c.args.rooms.now / 2 * c.args.share in
    let w1 = on_log c.both.new.pass in
    let w2 = on_log c.both.new.other in
    let one = subst (λ (u : PassView EntryValue). FiredOn u w1) c.split-other.ensures.kept c.both.ensures.first.worked.fired in
    let other = subst (λ (u : PassView EntryValue). FiredOn u w2) c.split-other.ensures.given c.both.ensures.second.worked.fired in
    comes_back v w1 w2 share one.name one.out other

pub fan-returns : goal.fan-returns
fan-returns g t c =
    let v = on_log c.args.pass.now in
    let cut = c.split_at_mut-others in
    let share = length c.args.rooms.now / 2 * c.args.share in
    let w1 = on_log c.both.new.pass in
    let w2 = on_log c.both.new.other in
    let one = subst (λ (u : PassView EntryValue). FiredOn u w1) c.split-other.ensures.kept c.both.ensures.first.worked.fired in
    let other = subst (λ (u : PassView EntryValue). FiredOn u w2) c.split-other.ensures.given c.both.ensures.second.worked.fired in
    record {
      worked = record {
        worked = record {
          own = c.join.ensures.own;
          fired = fired_joined v w1 w2 (on_log c.join.new.pass) share c.split-other.ensures.below.0 c.join.ensures.seen.0 one other c.join.ensures.joined;
        };
        rooms = rooms_both (unfolding_of c.args.crew.now.shared.opening.program) c.both.new.second c.both.new.first c.both.ensures.second.rooms c.both.ensures.first.rooms;
        many = rooms_many c.args.rooms.now cut.result.0.now cut.result.1.now c.both.new.second c.both.new.first cut.ensures.value c.both.ensures.second.many c.both.ensures.first.many;
      };
    }
