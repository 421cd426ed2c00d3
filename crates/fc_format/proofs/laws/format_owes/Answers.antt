use Rattle.fc_format.proofs.Formatting as proof
use Rattle.fc_format.proofs.laws.format_owes.Goals as goal

pub returns : goal.returns
returns c = proof.format_owes c.one_source.ensures
