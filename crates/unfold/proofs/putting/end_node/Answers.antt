use Rattle.std.proofs.lemmas.List.{map-set}
use Rattle.fc_nodes.specs.Terms.{view_of}
use Rattle.unfold.proofs.putting.end_node.Goals as goal

pub returns-clause-set : goal.returns-clause-set
returns-clause-set c = map-set view_of c.args.nodes.now.items c.args.place _
