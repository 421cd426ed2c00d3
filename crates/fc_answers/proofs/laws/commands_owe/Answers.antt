use Rattle.fc_answers.proofs.Commands as proof
use Rattle.fc_answers.proofs.laws.commands_owe.Goals as goal

pub returns : goal.returns
returns c =
    proof.commands_owe c.check_owes.ensures c.changes_owe.ensures c.stable_owes.ensures c.replay_owes.ensures
    c.format_owes.ensures c.trace_owes.ensures c.mail_owes.ensures c.run_owes.ensures c.gen_owes.ensures
