use Rattle.fc_answers.proofs.Owing as proof
use Rattle.fc_answers.proofs.laws.answer_statuses.Goals as goal

pub returns : goal.returns
returns c = proof.answer_statuses c.commands_owe.ensures
