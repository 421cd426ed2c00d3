use Rattle.stable_field.proofs.Joined.{local_node}
use Rattle.stable_field.proofs.terms.is_local.Goals as goal

pub returns-in-Local : goal.returns-in-Local
returns-in-Local c h = local_node c.args.program.now c.node.ensures.program c.args.place c.node.result.now _ c.in-Local.is c.node.ensures.node
