use Rattle.std.proofs.Common.{subst, ap}
use Rattle.turn_lock.specs.Logs.{Rises}
use Rattle.turn_lock.specs.Passes.{PassView}
use Rattle.export_table.specs.Items.{ItemValue}
use Rattle.export_table.specs.Passing.{on_log}
use Rattle.export_table.proofs.Passing.{pass_joined, rises_items}
use Rattle.export_table.proofs.shared.Shared.join.Goals as goal

pub returns-clause-joined : goal.returns-clause-joined
returns-clause-joined c = (pass_joined c.args.self.now c.args.pass.now c.args.other c.join.new.pass c.requires.own.0 c.requires.own.1 c.join.ensures.joined).1

pub returns-clause-rises : goal.returns-clause-rises
returns-clause-rises c =
    let own = (pass_joined c.args.self.now c.args.pass.now c.args.other c.join.new.pass c.requires.own.0 c.requires.own.1 c.join.ensures.joined).0 in
    rises_items (on_log c.join.new.pass).mine (subst Rises (ap (λ (p : PassView ItemValue). p.mine) own.opening) c.join.ensures.rises)

pub returns-clause-own : goal.returns-clause-own
returns-clause-own c = (pass_joined c.args.self.now c.args.pass.now c.args.other c.join.new.pass c.requires.own.0 c.requires.own.1 c.join.ensures.joined).0
