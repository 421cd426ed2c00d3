use Rattle.std.proofs.lemmas.Result.{on_ok_weaker}
use Rattle.firing_core.specs.CoreViews.{core_of}
use Rattle.worker_pool.proofs.OneByOne.{begin_allowed, end_allowed, fired_alone}
use Rattle.worker_pool.proofs.shorts.fire_alone.Goals as goal

pub step-requires-clause-has : goal.step-requires-clause-has
step-requires-clause-has c = begin_allowed (core_of c.args.book.now.core) c.args.device c.requires.there (c.requires.rests c.args.device)

pub step-requires-2-clause-has : goal.step-requires-2-clause-has
step-requires-2-clause-has c = end_allowed c.args.book.now c.step.new.book c.args.device c.requires.there c.in_ok-step.ensures.ok

pub returns : goal.returns
returns c = record {
  ok = on_ok_weaker c.step-2.result (λ a. fired_alone c.args.book.now c.step.new.book c.step-2.new.book c.args.device c.requires.rests c.in_ok-step.ensures.ok a) c.step-2.ensures.ok;
}
