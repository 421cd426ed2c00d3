use Rattle.std.proofs.Common.{arith, refl, sym, ◌∙◌}
use Rattle.fc_values.specs.Exports.{slots_of}
use Rattle.fc_nodes.proofs.Places.{formed_above}
use Rattle.value_trees.proofs.WalkSteps.{walk_none, own_needed, kids_walked, first_of, second_of, third_of, if_walked}
use Rattle.fc_nodes.proofs.Kids.{kids_stand, three, kid_at, kid_stands}
use Rattle.value_trees.proofs.walks.+walk.Goals as goal

pub walk-returns-in_err-from : goal.walk-returns-in_err-from
walk-returns-in_err-from t c =
    walk_none _ _ _ _ c.own_slot.result c.from_residual.result c.in_err-from.was c.from_residual.ensures (own_needed c.args.program.now.nodes (formed_above c.args.program.now.nodes c.node-node.ensures.program.formed) c.args.place c.requires _ _ _ c.node-node.ensures.node c.args.taken c.args.program.now.declared.ceiling c.args.at (slots_of c.args.slots.now)) c.own_slot.ensures

pub walk-walk_kids-requires : goal.walk-walk_kids-requires
walk-walk_kids-requires t c =
    let d = c.decreases in
    let w = c.requires.within in
    (omega (arith, d, w), rw c.as_slice-kids.ensures.value (kids_stand c.args.program.now.nodes (formed_above c.args.program.now.nodes c.node-node.ensures.program.formed) c.args.place c.requires _ _ _ c.node-node.ensures.node))

pub walk-returns-else-is_if : goal.walk-returns-else-is_if
walk-returns-else-is_if t c =
    let own = c.in_ok-from.ensures in
    kids_walked c.args.program.now.nodes (formed_above c.args.program.now.nodes c.node-node.ensures.program.formed) c.args.place c.requires _ _ _ c.node-node.ensures.node c.args.taken c.args.program.now.declared.ceiling c.args.at (slots_of c.args.slots.now) (sym c.is_if.ensures ∙ c.if-is_if.false) c.in_ok-from.from own.0 own.1 c.walk_kids.result (rw c.as_slice-kids.ensures.value at c.walk_kids.ensures)

pub walk_if-index-requires : goal.walk_if-index-requires
walk_if-index-requires t c =
    let o = three c.args.program.now.nodes (formed_above c.args.program.now.nodes c.requires.formed.formed) c.args.place c.requires.stands _ _ _ c.requires.node c.requires.branching in
    let l = o.long in
    omega (arith, l)

pub walk_if-index-requires-2 : goal.walk_if-index-requires-2
walk_if-index-requires-2 t c =
    let o = three c.args.program.now.nodes (formed_above c.args.program.now.nodes c.requires.formed.formed) c.args.place c.requires.stands _ _ _ c.requires.node c.requires.branching in
    let l = o.long in
    omega (arith, l)

pub walk_if-index-requires-3 : goal.walk_if-index-requires-3
walk_if-index-requires-3 t c =
    let o = three c.args.program.now.nodes (formed_above c.args.program.now.nodes c.requires.formed.formed) c.args.place c.requires.stands _ _ _ c.requires.node c.requires.branching in
    let l = o.long in
    omega (arith, l)

pub walk_if-walk-requires : goal.walk_if-walk-requires
walk_if-walk-requires t c =
    let d = c.decreases in
    let s = kid_stands c.args.program.now.nodes (formed_above c.args.program.now.nodes c.requires.formed.formed) c.args.place c.requires.stands _ _ _ c.requires.node c.requires.branching 0 c.index.result.now c.index.ensures (omega arith) in
    let a = s.0 in
    let b = s.1 in
    (omega (arith, d, a, b), s.2)

pub walk_if-walk-requires-2 : goal.walk_if-walk-requires-2
walk_if-walk-requires-2 t c =
    let d = c.decreases in
    let s = kid_stands c.args.program.now.nodes (formed_above c.args.program.now.nodes c.requires.formed.formed) c.args.place c.requires.stands _ _ _ c.requires.node c.requires.branching 1 c.index-2.result.now c.index-2.ensures (omega arith) in
    let a = s.0 in
    let b = s.1 in
    (omega (arith, d, a, b), s.2)

pub walk_if-walk-requires-3 : goal.walk_if-walk-requires-3
walk_if-walk-requires-3 t c =
    let d = c.decreases in
    let s = kid_stands c.args.program.now.nodes (formed_above c.args.program.now.nodes c.requires.formed.formed) c.args.place c.requires.stands _ _ _ c.requires.node c.requires.branching 2 c.index-3.result.now c.index-3.ensures (omega arith) in
    let a = s.0 in
    let b = s.1 in
    (omega (arith, d, a, b), s.2)

pub walk_if-returns-in_err-first : goal.walk_if-returns-in_err-first
walk_if-returns-in_err-first t c =
    walk_none _ _ _ _ c.walk.result c.from_residual.result c.in_err-first.was c.from_residual.ensures (first_of c.args.program.now.nodes (formed_above c.args.program.now.nodes c.requires.formed.formed) c.args.place c.requires.stands _ _ _ c.requires.node c.requires.branching c.args.taken c.args.program.now.declared.ceiling c.args.at (slots_of c.args.slots.now) c.index.result.now _ _ (kid_at c.args.program.now.nodes (formed_above c.args.program.now.nodes c.requires.formed.formed) c.args.place c.requires.stands _ _ _ c.requires.node c.requires.branching 0 c.index.result.now c.index.ensures (omega arith)) refl refl) c.walk.ensures

pub walk_if-returns-in_err-second : goal.walk_if-returns-in_err-second
walk_if-returns-in_err-second t c =
    walk_none _ _ _ _ c.walk-2.result c.from_residual-in_err-second.result c.in_err-second.was c.from_residual-in_err-second.ensures (second_of c.args.program.now.nodes (formed_above c.args.program.now.nodes c.requires.formed.formed) c.args.place c.requires.stands _ _ _ c.requires.node c.requires.branching c.args.taken c.args.program.now.declared.ceiling c.args.at (slots_of c.args.slots.now) c.index.result.now c.index-2.result.now _ (kid_at c.args.program.now.nodes (formed_above c.args.program.now.nodes c.requires.formed.formed) c.args.place c.requires.stands _ _ _ c.requires.node c.requires.branching 0 c.index.result.now c.index.ensures (omega arith)) (kid_at c.args.program.now.nodes (formed_above c.args.program.now.nodes c.requires.formed.formed) c.args.place c.requires.stands _ _ _ c.requires.node c.requires.branching 1 c.index-2.result.now c.index-2.ensures (omega arith)) refl c.truth_at-truth.result c.truth_at-truth.ensures c.in_ok-first.first c.in_ok-first.ensures.1 c.both.result c.both.ensures) c.walk-2.ensures

pub walk_if-returns-in_err-third : goal.walk_if-returns-in_err-third
walk_if-returns-in_err-third t c =
    walk_none _ _ _ _ c.walk-3.result c.from_residual-in_err-third.result c.in_err-third.was c.from_residual-in_err-third.ensures (third_of c.args.program.now.nodes (formed_above c.args.program.now.nodes c.requires.formed.formed) c.args.place c.requires.stands _ _ _ c.requires.node c.requires.branching c.args.taken c.args.program.now.declared.ceiling c.args.at (slots_of c.args.slots.now) c.index.result.now c.index-2.result.now c.index-3.result.now (kid_at c.args.program.now.nodes (formed_above c.args.program.now.nodes c.requires.formed.formed) c.args.place c.requires.stands _ _ _ c.requires.node c.requires.branching 0 c.index.result.now c.index.ensures (omega arith)) (kid_at c.args.program.now.nodes (formed_above c.args.program.now.nodes c.requires.formed.formed) c.args.place c.requires.stands _ _ _ c.requires.node c.requires.branching 1 c.index-2.result.now c.index-2.ensures (omega arith)) (kid_at c.args.program.now.nodes (formed_above c.args.program.now.nodes c.requires.formed.formed) c.args.place c.requires.stands _ _ _ c.requires.node c.requires.branching 2 c.index-3.result.now c.index-3.ensures (omega arith)) c.truth_at-truth.result c.truth_at-truth.ensures c.in_ok-first.first c.in_ok-first.ensures.1 c.both.result c.both.ensures c.in_ok-second.second c.in_ok-second.ensures.1 c.both-2.result c.both-2.ensures) c.walk-3.ensures

pub walk_if-returns : goal.walk_if-returns
walk_if-returns t c =
    if_walked c.args.program.now.nodes (formed_above c.args.program.now.nodes c.requires.formed.formed) c.args.place c.requires.stands _ _ _ c.requires.node c.requires.branching c.args.taken c.args.program.now.declared.ceiling c.args.at (slots_of c.args.slots.now) c.index.result.now c.index-2.result.now c.index-3.result.now (kid_at c.args.program.now.nodes (formed_above c.args.program.now.nodes c.requires.formed.formed) c.args.place c.requires.stands _ _ _ c.requires.node c.requires.branching 0 c.index.result.now c.index.ensures (omega arith)) (kid_at c.args.program.now.nodes (formed_above c.args.program.now.nodes c.requires.formed.formed) c.args.place c.requires.stands _ _ _ c.requires.node c.requires.branching 1 c.index-2.result.now c.index-2.ensures (omega arith)) (kid_at c.args.program.now.nodes (formed_above c.args.program.now.nodes c.requires.formed.formed) c.args.place c.requires.stands _ _ _ c.requires.node c.requires.branching 2 c.index-3.result.now c.index-3.ensures (omega arith)) c.truth_at-truth.result c.truth_at-truth.ensures c.in_ok-first.first c.in_ok-first.ensures.1 c.both.result c.both.ensures c.in_ok-second.second c.in_ok-second.ensures.1 c.both-2.result c.both-2.ensures c.requires.own c.in_ok-first.ensures.0 c.in_ok-second.ensures.0 c.in_ok-third.ensures.0 c.in_ok-third.third c.in_ok-third.ensures.1
