use Rattle.std.proofs.Common.{ap, length, ◌∙◌}
use Rattle.fc_nodes.specs.Program.{Program, unfolding_of}
use Rattle.fragment_check.specs.Verdicts.{levels_of}
use Rattle.verdict_texts.proofs.LevelCounts.{all_levels}
use Rattle.verdict_texts.proofs.verdict.verdict_text.Goals as goal

pub facts-requires-clause-levels : goal.facts-requires-clause-levels
facts-requires-clause-levels c =
    ap length (c.deref.ensures.value ∙ c.in_ok-verdict.ensures.levels c.in-Yes.field-0 c.in-Yes.is)
    ∙ ap (λ (P : Program). length (levels_of (unfolding_of P) c.args.devices)) c.in_ok-analysis.ensures
    ∙ all_levels c.args.program.now c.args.devices c.size-size.ensures.program
