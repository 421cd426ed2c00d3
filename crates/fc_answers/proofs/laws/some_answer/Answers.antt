use Rattle.fc_answers.proofs.Owing as proof
use Rattle.fc_answers.proofs.laws.some_answer.Goals as goal

pub returns : goal.returns
returns c = proof.some_answer c.commands_owe.ensures c.sections_are_within.ensures
