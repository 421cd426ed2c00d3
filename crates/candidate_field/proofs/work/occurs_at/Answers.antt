use Rattle.fc_nodes.proofs.Standing.{each_stands}
use Rattle.candidate_field.proofs.work.occurs_at.Goals as goal

pub occurs-requires : goal.occurs-requires
occurs-requires c = each_stands c.args.program.now.nodes c.node-node.ensures.program.formed c.args.place c.requires
