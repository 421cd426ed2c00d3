use Rattle.fc_answers.proofs.Owing as proof
use Rattle.fc_answers.proofs.laws.answers_keep.Goals as goal

pub returns : goal.returns
returns c = proof.answers_keep c.commands_owe.ensures
