use Rattle.fragment_check.proofs.Judgements.{root_stands}
use Rattle.fragment_check.proofs.listing.patterns.Goals as goal

pub judge-requires-clause-stands : goal.judge-requires-clause-stands
judge-requires-clause-stands c = root_stands c.args.program.now.nodes c.size.ensures.program.formed
