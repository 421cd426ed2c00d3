use Rattle.session.proofs.OneRuns.{one_run}
use Rattle.session.proofs.laws.one_script_run.Goals as goal

pub returns : goal.returns
returns c = one_run c.logs_decide.ensures.one c.entries_agree.ensures.steps c.steps_keep_good.ensures.step c.steps_keep_good.ensures.run
