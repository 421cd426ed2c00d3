use Rattle.session.proofs.KeptYes.{keeps}
use Rattle.session.proofs.promises.scripts_keep_yes.Goals as goal

pub returns : goal.returns
returns c =
    keeps c.lines_cut.ensures c.steps_keep_good.ensures.run c.steps_keep_good.ensures.plain c.runs_cut.ensures.cut c.runs_cut.ensures.edit
    c.rounds_grow.ensures.front c.yes_stabilises.ensures
