use Rattle.session.proofs.SomeRuns.{some_run}
use Rattle.session.proofs.laws.some_script_run.Goals as goal

pub returns : goal.returns
returns c =
    some_run c.faultless_steps.ensures.step c.steps_keep_good.ensures.step c.steps_keep_good.ensures.run c.steps_keep_good.ensures.plain
    c.runs_cut.ensures.cut c.rounds_grow.ensures.front c.some_rubbish.ensures
