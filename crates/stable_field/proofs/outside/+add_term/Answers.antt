use Rattle.std.proofs.Common.{arith}
use Rattle.fc_nodes.proofs.Places.{formed_above}
use Rattle.fc_nodes.proofs.Kids.{kids_stand}
use Rattle.stable_field.proofs.OutsideSlots.{term_same, outside_stand}
use Rattle.stable_field.proofs.outside.+add_term.Goals as goal

pub add_term-add_terms-requires : goal.add_term-add_terms-requires
add_term-add_terms-requires t c =
    let d = c.decreases in
    let w = c.requires.within in
    (omega (arith, d, w), rw c.kids_outside.ensures (outside_stand c.args.program.now.nodes c.args.place _ _ (kids_stand c.args.program.now.nodes (formed_above c.args.program.now.nodes c.node-node.ensures.program.formed) c.args.place c.requires _ _ _ c.node-node.ensures.node)))

pub add_term-returns : goal.add_term-returns
add_term-returns t c = λ xs ys h.
    let r = c.in_ok-add_terms.ensures xs ys h in
    let q = c.in_ok-add_own.ensures xs ys r.0 in
    (q.0, term_same xs ys c.args.program.now.nodes (formed_above c.args.program.now.nodes c.node-node.ensures.program.formed) c.args.place c.requires _ _ _ c.node-node.ensures.node q.1 (rw c.kids_outside.ensures at r.1))
