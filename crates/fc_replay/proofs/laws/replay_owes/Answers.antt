use Rattle.fc_replay.proofs.ReplayOwed as proof
use Rattle.fc_replay.proofs.laws.replay_owes.Goals as goal

pub returns : goal.returns
returns c =
    proof.replay_owes c.inputs_are_read.ensures c.yes_stabilises.ensures c.steps_keep_good.ensures.run
    c.runs_cut.ensures.edit c.readings_agree.ensures c.entries_agree.ensures.steps
    c.entries_agree.ensures.replays c.entries_agree.ensures.parts c.logs_have_entries.ensures
    c.faultless_steps.ensures.step c.steps_agree.ensures.step c.steps_agree.ensures.run c.steps_keep_good.ensures.step
    c.some_greatest.ensures
