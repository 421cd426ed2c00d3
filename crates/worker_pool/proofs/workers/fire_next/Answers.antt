use Rattle.std.proofs.Common.{sym, subst}
use Rattle.turn_lock.specs.Passes.{PassView}
use Rattle.export_table.specs.Items.{ItemValue}
use Rattle.export_table.specs.Passing.{on_log}
use Rattle.worker_pool.specs.Working.{Worked}
use Rattle.worker_pool.proofs.Passes.{fired_more}
use Rattle.worker_pool.proofs.Turns.{fired_began, fired_paused, fired_ends}
use Rattle.worker_pool.proofs.workers.fire_next.Goals as goal

pub returns-in-Some-clause-worked : goal.returns-in-Some-clause-worked
returns-in-Some-clause-worked g c =
    let o = c.args.crew.now.shared.opening in
    let u = on_log c.args.pass.now in
    let v = on_log c.next.new.pass in
    let w = on_log c.finish.new.pass in
    record {
      own = c.finish.ensures.own;
      fired = fired_more u v w (fired_began o u v c.in-Ok.firing c.in-Ok.ensures.began) (fired_ends o v w c.in-Ok.firing c.in-Some.ensures.ended);
    }

pub returns-in-None-clause-worked : goal.returns-in-None-clause-worked
returns-in-None-clause-worked g c =
    subst (λ (w : PassView ItemValue). Worked c.args.crew.now.shared c.args.pass.now w) (sym c.in-None.ensures.same)
    (record {
      own = c.next.ensures.own;
      fired = fired_began c.args.crew.now.shared.opening (on_log c.args.pass.now) (on_log c.next.new.pass) c.in-Ok.firing c.in-Ok.ensures.began;
    })

pub returns-in-Err-Rests-clause-worked : goal.returns-in-Err-Rests-clause-worked
returns-in-Err-Rests-clause-worked g c = record {
  own = c.next.ensures.own;
  fired = fired_paused c.args.crew.now.shared.opening (on_log c.args.pass.now) (on_log c.next.new.pass) c.in-Err-Rests.field-0 c.in-Err-Rests.ensures.paused;
}

pub returns-in-Err-Starved-clause-worked : goal.returns-in-Err-Starved-clause-worked
returns-in-Err-Starved-clause-worked g c = record {
  own = c.next.ensures.own;
  fired = fired_paused c.args.crew.now.shared.opening (on_log c.args.pass.now) (on_log c.next.new.pass) c.in-Err-Starved.field-0 c.in-Err-Starved.ensures.paused;
}
