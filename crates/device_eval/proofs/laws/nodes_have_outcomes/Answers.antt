use Rattle.device_eval.proofs.OneExport.{node_outcome, main_may}
use Rattle.device_eval.proofs.laws.nodes_have_outcomes.Goals as goal

pub returns-clause-node : goal.returns-clause-node
returns-clause-node c = node_outcome

pub returns-clause-main : goal.returns-clause-main
returns-clause-main c = main_may
