use Rattle.worker_pool.proofs.Passes.{worked_more}
use Rattle.worker_pool.proofs.workers.work.Goals as goal

pub firings-preserved-in-Fired : goal.firings-preserved-in-Fired
firings-preserved-in-Fired g c = record {
  worked = worked_more c.args.crew.now.shared c.args.pass.now c.firings.pass c.fire_next.new.pass c.firings.invariant.worked c.fire_next.ensures.worked;
  room = c.in-Fired.ensures.tries;
}

pub firings-preserved : goal.firings-preserved
firings-preserved g c = record {
  worked = worked_more c.args.crew.now.shared c.args.pass.now c.firings.pass c.fire_next.new.pass c.firings.invariant.worked c.fire_next.ensures.worked;
  room = c.in-Rested.ensures.tries;
}

pub returns-in-Starved-clause-worked : goal.returns-in-Starved-clause-worked
returns-in-Starved-clause-worked g c =
    worked_more c.args.crew.now.shared c.args.pass.now c.firings.pass c.fire_next.new.pass c.firings.invariant.worked c.fire_next.ensures.worked

pub returns-then-rest-clause-worked : goal.returns-then-rest-clause-worked
returns-then-rest-clause-worked g c =
    worked_more c.args.crew.now.shared c.args.pass.now c.firings.pass c.fire_next.new.pass c.firings.invariant.worked c.fire_next.ensures.worked
