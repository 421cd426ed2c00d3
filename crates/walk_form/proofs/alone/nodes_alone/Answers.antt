use Rattle.walk_form.proofs.Laying.{alone_more}
use Rattle.walk_form.proofs.alone.nodes_alone.Goals as goal

pub loop-place-preserved : goal.loop-place-preserved
loop-place-preserved c =
    alone_more c.args.program.now.nodes c.args.term.from c.loop-place.place c.loop-place.nodes.items c.push.new.self.items c.in_ok-node.node c.loop-place.invariant c.in_ok-node.ensures c.in_ok-push.ensures.items
