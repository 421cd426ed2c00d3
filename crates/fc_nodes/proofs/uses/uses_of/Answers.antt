use Rattle.std.proofs.Common.{add-one, subst, sym}
use Rattle.fc_nodes.specs.Occurrences.{AreUsesBefore, lists_of}
use Rattle.fc_nodes.proofs.Counted.{no_uses_yet, uses_next}
use Rattle.fc_nodes.proofs.uses.uses_of.Goals as goal

pub loop-place-init : goal.loop-place-init
loop-place-init c = no_uses_yet c.args.nodes.now _ c.in_ok-uses.ensures

pub loop-place-preserved : goal.loop-place-preserved
loop-place-preserved c =
    subst (λ k. AreUsesBefore c.args.nodes.now k (lists_of c.note_node.new.uses.items)) (sym (add-one c.loop-place.place))
    (uses_next c.args.nodes.now c.loop-place.place _ _ _ _ _ c.loop-place.invariant c.node_at.ensures c.in_ok-note_node.ensures)
