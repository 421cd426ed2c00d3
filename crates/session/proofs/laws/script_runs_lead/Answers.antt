use Rattle.session.proofs.SomeRuns.{runs_lead}
use Rattle.session.proofs.laws.script_runs_lead.Goals as goal

pub returns : goal.returns
returns c = runs_lead c.runs_cut.ensures.cut
