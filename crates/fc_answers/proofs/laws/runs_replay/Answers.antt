use Rattle.fc_answers.proofs.RunsReplaying as proof
use Rattle.fc_answers.proofs.laws.runs_replay.Goals as goal

pub returns : goal.returns
returns c = proof.runs_replay c.script_runs_lead.ensures c.written_logs_replay.ensures
