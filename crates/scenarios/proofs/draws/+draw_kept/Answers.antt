use Rattle.std.proofs.Common.{arith, refl, sym, ◌∙◌}
use Rattle.fc_nodes.proofs.Places.{formed_above}
use Rattle.fc_nodes.proofs.Kids.{kids_stand, three, kid_at, kid_stands}
use Rattle.scenarios.proofs.DrawSteps.{node_drawn, true_drawn, false_drawn}
use Rattle.scenarios.proofs.draws.+draw_kept.Goals as goal

pub draw_branch-index-requires : goal.draw_branch-index-requires
draw_branch-index-requires t c =
    let o = three c.args.program.now.nodes (formed_above c.args.program.now.nodes c.requires.formed.formed) c.args.place c.requires.stands _ _ _ c.requires.node c.requires.branching in
    let l = o.long in
    omega (arith, l)

pub draw_branch-draw_kept-requires : goal.draw_branch-draw_kept-requires
draw_branch-draw_kept-requires t c =
    let d = c.decreases in
    let s = kid_stands c.args.program.now.nodes (formed_above c.args.program.now.nodes c.requires.formed.formed) c.args.place c.requires.stands _ _ _ c.requires.node c.requires.branching 0 c.index.result.now c.index.ensures (omega arith) in
    let a = s.0 in
    let b = s.1 in
    (omega (arith, d, a, b), s.2)

pub draw_branch-index-requires-then-truth : goal.draw_branch-index-requires-then-truth
draw_branch-index-requires-then-truth t c =
    let o = three c.args.program.now.nodes (formed_above c.args.program.now.nodes c.requires.formed.formed) c.args.place c.requires.stands _ _ _ c.requires.node c.requires.branching in
    let l = o.long in
    omega (arith, l)

pub draw_branch-draw_kept-requires-then-truth : goal.draw_branch-draw_kept-requires-then-truth
draw_branch-draw_kept-requires-then-truth t c =
    let d = c.decreases in
    let s = kid_stands c.args.program.now.nodes (formed_above c.args.program.now.nodes c.requires.formed.formed) c.args.place c.requires.stands _ _ _ c.requires.node c.requires.branching 1 c.index-then-truth.result.now c.index-then-truth.ensures (omega arith) in
    let a = s.0 in
    let b = s.1 in
    (omega (arith, d, a, b), s.2)

pub draw_branch-index-requires-else-truth : goal.draw_branch-index-requires-else-truth
draw_branch-index-requires-else-truth t c =
    let o = three c.args.program.now.nodes (formed_above c.args.program.now.nodes c.requires.formed.formed) c.args.place c.requires.stands _ _ _ c.requires.node c.requires.branching in
    let l = o.long in
    omega (arith, l)

pub draw_branch-draw_kept-requires-else-truth : goal.draw_branch-draw_kept-requires-else-truth
draw_branch-draw_kept-requires-else-truth t c =
    let d = c.decreases in
    let s = kid_stands c.args.program.now.nodes (formed_above c.args.program.now.nodes c.requires.formed.formed) c.args.place c.requires.stands _ _ _ c.requires.node c.requires.branching 2 c.index-else-truth.result.now c.index-else-truth.ensures (omega arith) in
    let a = s.0 in
    let b = s.1 in
    (omega (arith, d, a, b), s.2)

pub draw_branch-returns-in_ok-draw_kept-2 : goal.draw_branch-returns-in_ok-draw_kept-2
draw_branch-returns-in_ok-draw_kept-2 t c =
    true_drawn c.args.program.now.nodes (formed_above c.args.program.now.nodes c.requires.formed.formed) c.args.place c.requires.stands _ _ _ c.requires.node c.requires.branching c.args.program.now.declared.ceiling c.args.words.now c.draw_truth-truth.new.words c.draw_truth-truth.result c.draw_truth-truth.ensures
    c.args.list.now.items _ c.push.new.self.items c.in_ok-push.ensures.items refl
    c.index.result.now (kid_at c.args.program.now.nodes (formed_above c.args.program.now.nodes c.requires.formed.formed) c.args.place c.requires.stands _ _ _ c.requires.node c.requires.branching 0 c.index.result.now c.index.ensures (omega arith)) c.draw_kept.new.list.items c.draw_kept.new.words c.in_ok-draw_kept.ensures
    c.if-truth.true c.index-then-truth.result.now (kid_at c.args.program.now.nodes (formed_above c.args.program.now.nodes c.requires.formed.formed) c.args.place c.requires.stands _ _ _ c.requires.node c.requires.branching 1 c.index-then-truth.result.now c.index-then-truth.ensures (omega arith)) c.draw_kept-then-truth.new.list.items c.draw_kept-then-truth.new.words c.in_ok-draw_kept-2.ensures

pub draw_branch-returns-in_ok-draw_kept-3 : goal.draw_branch-returns-in_ok-draw_kept-3
draw_branch-returns-in_ok-draw_kept-3 t c =
    false_drawn c.args.program.now.nodes (formed_above c.args.program.now.nodes c.requires.formed.formed) c.args.place c.requires.stands _ _ _ c.requires.node c.requires.branching c.args.program.now.declared.ceiling c.args.words.now c.draw_truth-truth.new.words c.draw_truth-truth.result c.draw_truth-truth.ensures
    c.args.list.now.items _ c.push.new.self.items c.in_ok-push.ensures.items refl
    c.index.result.now (kid_at c.args.program.now.nodes (formed_above c.args.program.now.nodes c.requires.formed.formed) c.args.place c.requires.stands _ _ _ c.requires.node c.requires.branching 0 c.index.result.now c.index.ensures (omega arith)) c.draw_kept.new.list.items c.draw_kept.new.words c.in_ok-draw_kept.ensures
    c.if-truth.false c.index-else-truth.result.now (kid_at c.args.program.now.nodes (formed_above c.args.program.now.nodes c.requires.formed.formed) c.args.place c.requires.stands _ _ _ c.requires.node c.requires.branching 2 c.index-else-truth.result.now c.index-else-truth.ensures (omega arith)) c.draw_kept-else-truth.new.list.items c.draw_kept-else-truth.new.words c.in_ok-draw_kept-3.ensures

pub draw_kept-draw_kids-requires : goal.draw_kept-draw_kids-requires
draw_kept-draw_kids-requires t c =
    let d = c.decreases in
    let w = c.requires.within in
    (omega (arith, d, w), rw c.as_slice-kids.ensures.value (kids_stand c.args.program.now.nodes (formed_above c.args.program.now.nodes c.node-node.ensures.program.formed) c.args.place c.requires _ _ _ c.node-node.ensures.node))

pub draw_kept-returns : goal.draw_kept-returns
draw_kept-returns t c =
    node_drawn c.args.program.now.nodes (formed_above c.args.program.now.nodes c.node-node.ensures.program.formed) c.args.place c.requires _ _ _ c.node-node.ensures.node c.args.program.now.declared.ceiling (sym c.is_if.ensures ∙ c.if-is_if.false) c.args.list.now.items c.draw_own.new.list.items c.draw_kids.new.list.items
    c.args.words.now c.draw_own.new.words c.draw_kids.new.words c.in_ok-draw_own.ensures (rw c.as_slice-kids.ensures.value at c.in_ok-draw_kids.ensures)
