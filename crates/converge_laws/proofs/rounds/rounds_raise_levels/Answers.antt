use Rattle.converge_laws.proofs.RisingLevels.{good_start, levels_of_steps, levels_of_rounds}
use Rattle.converge_laws.proofs.rounds.rounds_raise_levels.Goals as goal

pub returns-clause-start : goal.returns-clause-start
returns-clause-start g c = let l = g.L.Levels in
    good_start c.steps_keep_good.ensures.step c.faultless_steps.ensures.copy c.runs_cut.ensures.cut l.level l.program l.network l.is_program l.is_network l.declared l.raises

pub returns-clause-step : goal.returns-clause-step
returns-clause-step g c = let l = g.L.Levels in
    levels_of_steps c.steps_keep_good.ensures.step c.faultless_steps.ensures.copy c.runs_cut.ensures.cut l.level l.program l.network l.is_program l.is_network l.declared l.raises

pub returns-clause-rounds : goal.returns-clause-rounds
returns-clause-rounds g c = let l = g.L.Levels in
    levels_of_rounds c.steps_keep_good.ensures.step c.faultless_steps.ensures.copy c.runs_cut.ensures.cut l.level l.program l.network l.is_program l.is_network l.declared l.raises
