use Rattle.moving_laws.proofs.Moving.{moves_by_rounds}
use Rattle.moving_laws.proofs.rounds.rounds_raise_changing_levels.Goals as goal

pub returns : goal.returns
returns g c = let l = g.L.ChangingLevels in
    moves_by_rounds c.steps_keep_good.ensures.step c.faultless_steps.ensures.copy c.runs_cut.ensures.cut
    l.level l.program l.allowed l.is_program l.lifts
