use Rattle.firing_core.proofs.Cuts.{run_parts, cut_at_edit}
use Rattle.firing_core.proofs.laws.runs_cut.Goals as goal

pub returns-clause-cut : goal.returns-clause-cut
returns-clause-cut c = run_parts

pub returns-clause-edit : goal.returns-clause-edit
returns-clause-edit c = cut_at_edit
