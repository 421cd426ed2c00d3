use Rattle.std.proofs.Common.{ap, sym, ◌∙◌}
use Rattle.fc_nodes.specs.Program.{unfolding_of}
use Rattle.firing_core.specs.CoreViews.{core_of}
use Rattle.session.specs.Shown.{verdict_in}
use Rattle.session.proofs.Runs.{opened}
use Rattle.session.proofs.scripts.start.Goals as goal

pub returns : goal.returns
returns c =
    opened c.args.program.value c.args.core _ c.in_ok-verdict.verdict
    (c.in_ok-verdict.ensures ∙ ap (λ p. verdict_in (unfolding_of p) (core_of c.args.core)) c.requires.analysed)
    c.in_ok-text.ensures c.new-parts.ensures.items
    c.in-Ok.ensures.program c.in-Ok.ensures.start c.in-Ok.ensures.log c.in-Ok.ensures.core
