use Rattle.std.proofs.Common.{ℕ, subst}
use Rattle.turn_lock.specs.Passes.{PassView}
use Rattle.turn_lock.specs.Noting.{Went}
use Rattle.turn_lock.proofs.Fanning.{all}
use Rattle.turn_lock.proofs.notes.many_notes.Goals as goal

pub returns-clause-made : goal.returns-clause-made
returns-clause-made g c = all c.in_ok-lock.lock c.args.notes c.close.result c.args.writers c.args.note c.fan.new.pass
    (subst (λ (u : PassView ℕ). Went u c.fan.new.pass c.args.writers c.args.note) c.in_ok-lock.ensures.made c.fan.ensures.went) c.close.ensures
