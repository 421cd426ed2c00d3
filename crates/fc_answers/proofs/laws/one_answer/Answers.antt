use Rattle.fc_answers.proofs.Owing as proof
use Rattle.fc_answers.proofs.laws.one_answer.Goals as goal

pub returns : goal.returns
returns c = proof.one_answer c.commands_owe.ensures
