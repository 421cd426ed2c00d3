use Rattle.fc_replay.proofs.Rereading.{written_logs}
use Rattle.fc_replay.proofs.laws.written_logs_replay.Goals as goal

pub returns : goal.returns
returns c =
    written_logs c.one_input.ensures c.inputs_start.ensures c.texts_unfold.ensures c.texts_name_inputs.ensures
    c.logs_read_back.ensures
