use Rattle.fc_nodes.proofs.Standing.{each_stands}
use Rattle.growth_facts.proofs.walk.facts.Goals as goal

pub facts_below-requires-clause-stands : goal.facts_below-requires-clause-stands
facts_below-requires-clause-stands c = each_stands c.args.program.now.nodes c.node.ensures.program.formed c.args.place c.requires.place
