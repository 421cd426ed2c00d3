use Rattle.std.proofs.Common.{ℕ, List, map, ap, subst, ◌∙◌}
use Rattle.edit_commands.specs.Scripts.{CommandValue, numbered}
use Rattle.session.specs.Sessions.{HasRun}
use Rattle.fc_gen.proofs.Running.{is_run}
use Rattle.fc_gen.proofs.generating.ran.Goals as goal

pub returns : goal.returns
returns g c =
    is_run c.args.program c.in_ok-program.program.value c.args.net c.args.number c.args.rounds c.in_ok-core.core _ _ c.in_ok-session.session
    c.in_ok-program.ensures.ok c.new-2.ensures.items c.new-3.ensures.items c.in_ok-core.ensures.core
    (subst (λ (ls : List (ℕ × CommandValue)). HasRun c.in_ok-program.program.value c.in_ok-core.core ls c.in_ok-session.session)
    (ap (map numbered) c.in_ok-lines.ensures.items ∙ c.lines_of.ensures) c.in_ok-session.ensures)
