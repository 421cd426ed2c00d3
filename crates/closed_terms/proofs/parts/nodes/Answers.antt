use Rattle.std.proofs.Common.{[], ◌∷◌, sym, ap, subst, arith, length, length-append}
use Rattle.fc_nodes.specs.Terms.{view_of}
use Rattle.closed_terms.specs.Parts.{IsLowered}
use Rattle.closed_terms.proofs.Laying.{one_more}
use Rattle.closed_terms.proofs.parts.nodes.Goals as goal

pub loop-at-preserved : goal.loop-at-preserved
loop-at-preserved c =
    let m = c.loop-at.invariant.many in record {
      low = subst (IsLowered c.args.place c.args.program.now.nodes) (sym c.in_ok-push.ensures.items)
          (one_more c.args.place c.args.program.now.nodes c.loop-at.list.items c.loop-at.invariant.low c.loop-at.at m (view_of c.node.result.now) c.node.ensures.node c.in_ok-node.node c.in_ok-node.ensures);
      many = omega (arith, m, ap length c.in_ok-push.ensures.items, length-append c.loop-at.list.items (c.in_ok-node.node ∷ []));
    }
