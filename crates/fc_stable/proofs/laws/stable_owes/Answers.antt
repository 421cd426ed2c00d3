use Rattle.fc_stable.proofs.Solving as proof
use Rattle.fc_stable.proofs.laws.stable_owes.Goals as goal

pub returns : goal.returns
returns c = proof.stable_owes c.inputs_are_read.ensures c.yes_stabilises.ensures
