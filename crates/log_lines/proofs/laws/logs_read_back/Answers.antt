use Rattle.log_lines.proofs.Logs.{read_back}
use Rattle.log_lines.proofs.laws.logs_read_back.Goals as goal

pub returns : goal.returns
returns c =
    read_back c.values_are_read.ensures c.readings_agree.ensures c.entries_agree.ensures.replays c.steps_agree.ensures.run
    c.steps_keep_good.ensures.step
