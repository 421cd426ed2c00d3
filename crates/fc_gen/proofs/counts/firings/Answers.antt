use Rattle.std.proofs.Common.{◌∙◌}
use Rattle.fc_gen.proofs.Running.{first_part}
use Rattle.fc_gen.proofs.counts.firings.Goals as goal

pub returns-in-Some : goal.returns-in-Some
returns-in-Some c = c.ends.ensures ∙ first_part c.args.log.now c.args.parts.now c.in-Some.part.now c.in-Some.ensures.value
