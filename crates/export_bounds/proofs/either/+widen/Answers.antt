use Rattle.std.proofs.Common.{arith, sym, ◌∙◌}
use Rattle.fc_nodes.proofs.Places.{formed_above}
use Rattle.export_bounds.proofs.WidenAt.{own_there, kids_there, node_done, if_long, slot_there, first_there}
use Rattle.export_bounds.proofs.WidenAt.{second_there, third_there, if_done, kid_done, kids_done}
use Rattle.export_bounds.proofs.either.+widen.Goals as goal

pub widen_at-widen_own-requires : goal.widen_at-widen_own-requires
widen_at-widen_own-requires t c =
    own_there (formed_above c.args.visit.now.program.now.nodes c.node-node.ensures.program.formed) c.requires
    c.node-node.ensures.node

pub widen_at-widen_kids-requires : goal.widen_at-widen_kids-requires
widen_at-widen_kids-requires t c =
    let d = c.decreases in
    let w = c.requires.stands.within in (
      omega (arith, d, w),
      kids_there
          (formed_above c.args.visit.now.program.now.nodes c.node-node.ensures.program.formed) c.requires
          c.node-node.ensures.node c.as_slice-kids.ensures.value c.in_ok-from.ensures.end c.widen_own.auto.seconds,
    )

pub widen_at-returns : goal.widen_at-returns
widen_at-returns t c =
    node_done (formed_above c.args.visit.now.program.now.nodes c.node-node.ensures.program.formed) c.requires
    c.node-node.ensures.node (sym c.is_if.ensures ∙ c.if-is_if.false) c.in_ok-from.ensures
    c.as_slice-kids.ensures.value c.in_ok-end-2.ensures

pub widen_if-index-requires : goal.widen_if-index-requires
widen_if-index-requires t c =
    let l = if_long (formed_above c.args.visit.now.program.now.nodes c.requires.formed.formed) c.requires.can
    c.requires.node c.requires.branching in
    omega (arith, l)

pub widen_if-index-requires-2 : goal.widen_if-index-requires-2
widen_if-index-requires-2 t c =
    let l = if_long (formed_above c.args.visit.now.program.now.nodes c.requires.formed.formed) c.requires.can
    c.requires.node c.requires.branching in
    omega (arith, l)

pub widen_if-index-requires-3 : goal.widen_if-index-requires-3
widen_if-index-requires-3 t c =
    let l = if_long (formed_above c.args.visit.now.program.now.nodes c.requires.formed.formed) c.requires.can
    c.requires.node c.requires.branching in
    omega (arith, l)

pub widen_if-branch_side-requires : goal.widen_if-branch_side-requires
widen_if-branch_side-requires t c =
    slot_there (formed_above c.args.visit.now.program.now.nodes c.requires.formed.formed) c.requires.can
    c.requires.node c.requires.branching

pub widen_if-branch_side-requires-2 : goal.widen_if-branch_side-requires-2
widen_if-branch_side-requires-2 t c =
    slot_there (formed_above c.args.visit.now.program.now.nodes c.requires.formed.formed) c.requires.can
    c.requires.node c.requires.branching

pub widen_if-widen_slot-requires : goal.widen_if-widen_slot-requires
widen_if-widen_slot-requires t c =
    slot_there (formed_above c.args.visit.now.program.now.nodes c.requires.formed.formed) c.requires.can
    c.requires.node c.requires.branching

pub widen_if-widen_at-requires : goal.widen_if-widen_at-requires
widen_if-widen_at-requires t c =
    let d = c.decreases in
    let r = first_there (formed_above c.args.visit.now.program.now.nodes c.requires.formed.formed) c.requires.can
    c.requires.node c.requires.branching c.index.ensures c.index-2.ensures c.index-3.ensures
    c.widen_slot.auto.seconds in
    let a = r.0 in
    let b = r.1 in
    (omega (arith, d, a, b), r.2)

pub widen_if-widen_at-requires-2 : goal.widen_if-widen_at-requires-2
widen_if-widen_at-requires-2 t c =
    let d = c.decreases in
    let r = second_there (formed_above c.args.visit.now.program.now.nodes c.requires.formed.formed) c.requires.can
    c.requires.node c.requires.branching c.index.ensures c.index-2.ensures c.index-3.ensures c.in_ok-first.ensures.end
    (c.widen_at.auto.seconds ∙ c.widen_slot.auto.seconds) in
    let a = r.0 in
    let b = r.1 in
    (omega (arith, d, a, b), r.2)

pub widen_if-widen_at-requires-3 : goal.widen_if-widen_at-requires-3
widen_if-widen_at-requires-3 t c =
    let d = c.decreases in
    let r = third_there (formed_above c.args.visit.now.program.now.nodes c.requires.formed.formed) c.requires.can
    c.requires.node c.requires.branching c.index.ensures c.index-2.ensures c.index-3.ensures c.in_ok-first.ensures.end
    c.in_ok-second.ensures.end
    (c.widen_at-2.auto.seconds ∙ c.widen_at.auto.seconds ∙ c.widen_slot.auto.seconds) in
    let a = r.0 in
    let b = r.1 in
    (omega (arith, d, a, b), r.2)

pub widen_if-returns : goal.widen_if-returns
widen_if-returns t c =
    if_done (formed_above c.args.visit.now.program.now.nodes c.requires.formed.formed) c.requires.can c.requires.node
    c.requires.branching c.index.ensures c.index-2.ensures c.index-3.ensures c.in_ok-widen_slot.ensures
    c.in_ok-first.ensures c.branch_side.ensures c.in_ok-second.ensures c.branch_side-2.ensures c.in_ok-end.ensures

pub widen_kids-loop-kid-preserved : goal.widen_kids-loop-kid-preserved
widen_kids-loop-kid-preserved t c =
    kid_done c.loop-kid.invariant c.loop-kid-test.true c.widen_at.auto.seconds c.in_ok-next.ensures

pub widen_kids-returns : goal.widen_kids-returns
widen_kids-returns t c = kids_done c.loop-kid.invariant c.loop-kid-test.false
