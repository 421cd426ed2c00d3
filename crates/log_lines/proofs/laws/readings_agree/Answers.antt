use Rattle.log_lines.proofs.Readings as proof
use Rattle.log_lines.proofs.laws.readings_agree.Goals as goal

pub returns : goal.returns
returns c = proof.readings_agree
