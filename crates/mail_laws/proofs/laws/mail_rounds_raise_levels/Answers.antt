use Rattle.mail_laws.proofs.Rounds.{levels_of_mail}
use Rattle.mail_laws.proofs.laws.mail_rounds_raise_levels.Goals as goal

pub returns : goal.returns
returns g c = let l = g.L.Levels in
    levels_of_mail c.steps_keep_good.ensures.step c.faultless_steps.ensures.copy l.level l.program l.network l.is_program l.is_network l.declared l.raises
    c.rounds_raise_levels.ensures.start c.rounds_raise_levels.ensures.step
