use Rattle.std.proofs.Common.{arith, refl, sym, ◌∙◌, map}
use Rattle.std.proofs.lemmas.Result.{err_from_is_err_and}
use Rattle.value_trees.specs.KeptItems.{kept_of}
use Rattle.fc_values.specs.Exports.{slots_of}
use Rattle.fc_nodes.proofs.Places.{formed_above}
use Rattle.fc_nodes.proofs.Kids.{kids_stand, three, kid_at, kid_stands}
use Rattle.value_trees.proofs.FillSteps.{fault_up, own_off, kids_of_off, node_filled, kids_at, if_own_off, if_first_off, if_second_off, if_third_off, if_filled, truth_here}
use Rattle.value_trees.proofs.reading.+fill.Goals as goal

pub fill-returns-in_err-left : goal.fill-returns-in_err-left
fill-returns-in_err-left t c =
    let p = err_from_is_err_and c.from_residual-in_err-left.result c.from_residual-in_err-left.ensures.1 in
    rw (p.1, p.2) (fault_up _ _ (own_off c.args.visit.now.program.now.nodes (formed_above c.args.visit.now.program.now.nodes c.node-node.ensures.program.formed) c.args.visit.now.place c.requires _ _ _ c.node-node.ensures.node c.args.visit.now.taken c.args.visit.now.program.now.declared.ceiling (sym c.is_if.ensures ∙ c.if-is_if.false) (map kept_of c.args.list.now)) c.in_err-left.field-0.0 c.in_err-left.ensures.fault)

pub fill-fill_kids-requires : goal.fill-fill_kids-requires
fill-fill_kids-requires t c =
    let d = c.decreases in
    let w = c.requires.within in
    (omega (arith, d, w), rw c.as_slice-kids.ensures.value (kids_stand c.args.visit.now.program.now.nodes (formed_above c.args.visit.now.program.now.nodes c.node-node.ensures.program.formed) c.args.visit.now.place c.requires _ _ _ c.node-node.ensures.node))

pub fill-returns-in_err-filled-2 : goal.fill-returns-in_err-filled-2
fill-returns-in_err-filled-2 t c =
    let p = err_from_is_err_and c.from_residual-in_err-filled-2.result c.from_residual-in_err-filled-2.ensures.1 in
    rw (p.1, p.2) (fault_up _ _ (kids_of_off c.args.visit.now.program.now.nodes (formed_above c.args.visit.now.program.now.nodes c.node-node.ensures.program.formed) c.args.visit.now.place c.requires _ _ _ c.node-node.ensures.node c.args.visit.now.taken c.args.visit.now.program.now.declared.ceiling (sym c.is_if.ensures ∙ c.if-is_if.false) (map kept_of c.args.list.now) (map kept_of c.in_ok-left.left.now) (slots_of c.args.slots.now.items) (slots_of c.fill_own.new.slots.items) c.in_ok-left.ensures.filled) c.in_err-filled-2.field-0.0 (rw c.as_slice-kids.ensures.value at c.in_err-filled-2.ensures))

pub fill-returns : goal.fill-returns
fill-returns t c =
    node_filled c.args.visit.now.program.now.nodes (formed_above c.args.visit.now.program.now.nodes c.node-node.ensures.program.formed) c.args.visit.now.place c.requires _ _ _ c.node-node.ensures.node c.args.visit.now.taken c.args.visit.now.program.now.declared.ceiling (sym c.is_if.ensures ∙ c.if-is_if.false) (map kept_of c.args.list.now) (map kept_of c.in_ok-left.left.now) (slots_of c.args.slots.now.items) (slots_of c.fill_own.new.slots.items) c.in_ok-left.ensures.filled (map kept_of c.in_ok-filled-2.filled.now) (slots_of c.fill_kids.new.slots.items) (rw c.as_slice-kids.ensures.value at c.in_ok-filled-2.ensures)

pub fill_kids-loop-kid-preserved : goal.fill_kids-loop-kid-preserved
fill_kids-loop-kid-preserved t c =
    kids_at c.args.visit.now.program.now.nodes c.args.visit.now.place c.args.visit.now.taken c.args.visit.now.program.now.declared.ceiling c.args.kids.now c.loop-kid.kid-index (map kept_of c.args.list.now) (map kept_of c.loop-kid.left.now) (map kept_of c.in_ok-left.left.now) (slots_of c.args.slots.now.items) (slots_of c.loop-kid.slots.items) (slots_of c.fill.new.slots.items) (omega arith) c.loop-kid.invariant c.in_ok-left.ensures

pub fill_if-index-requires : goal.fill_if-index-requires
fill_if-index-requires t c =
    let o = three c.args.visit.now.program.now.nodes (formed_above c.args.visit.now.program.now.nodes c.requires.formed.formed) c.args.visit.now.place c.requires.stands _ _ _ c.requires.node c.requires.branching in
    let l = o.long in
    omega (arith, l)

pub fill_if-fill-requires : goal.fill_if-fill-requires
fill_if-fill-requires t c =
    let d = c.decreases in
    let s = kid_stands c.args.visit.now.program.now.nodes (formed_above c.args.visit.now.program.now.nodes c.requires.formed.formed) c.args.visit.now.place c.requires.stands _ _ _ c.requires.node c.requires.branching 0 c.index.result.now c.index.ensures (omega arith) in
    let a = s.0 in
    let b = s.1 in
    (omega (arith, d, a, b), s.2)

pub fill_if-index-requires-2 : goal.fill_if-index-requires-2
fill_if-index-requires-2 t c =
    let o = three c.args.visit.now.program.now.nodes (formed_above c.args.visit.now.program.now.nodes c.requires.formed.formed) c.args.visit.now.place c.requires.stands _ _ _ c.requires.node c.requires.branching in
    let l = o.long in
    omega (arith, l)

pub fill_if-fill-requires-2 : goal.fill_if-fill-requires-2
fill_if-fill-requires-2 t c =
    let d = c.decreases in
    let s = kid_stands c.args.visit.now.program.now.nodes (formed_above c.args.visit.now.program.now.nodes c.requires.formed.formed) c.args.visit.now.place c.requires.stands _ _ _ c.requires.node c.requires.branching 1 c.index-2.result.now c.index-2.ensures (omega arith) in
    let a = s.0 in
    let b = s.1 in
    (omega (arith, d, a, b), s.2)

pub fill_if-index-requires-3 : goal.fill_if-index-requires-3
fill_if-index-requires-3 t c =
    let o = three c.args.visit.now.program.now.nodes (formed_above c.args.visit.now.program.now.nodes c.requires.formed.formed) c.args.visit.now.place c.requires.stands _ _ _ c.requires.node c.requires.branching in
    let l = o.long in
    omega (arith, l)

pub fill_if-fill-requires-3 : goal.fill_if-fill-requires-3
fill_if-fill-requires-3 t c =
    let d = c.decreases in
    let s = kid_stands c.args.visit.now.program.now.nodes (formed_above c.args.visit.now.program.now.nodes c.requires.formed.formed) c.args.visit.now.place c.requires.stands _ _ _ c.requires.node c.requires.branching 2 c.index-3.result.now c.index-3.ensures (omega arith) in
    let a = s.0 in
    let b = s.1 in
    (omega (arith, d, a, b), s.2)

pub fill_if-returns-in_err-own : goal.fill_if-returns-in_err-own
fill_if-returns-in_err-own t c =
    let p = err_from_is_err_and c.from_residual.result c.from_residual.ensures.1 in
    rw (p.1, p.2) (fault_up _ _ (if_own_off c.args.visit.now.program.now.nodes (formed_above c.args.visit.now.program.now.nodes c.requires.formed.formed) c.args.visit.now.place c.requires.stands _ _ _ c.requires.node c.requires.branching c.args.visit.now.taken c.args.visit.now.program.now.declared.ceiling _ _ _ refl refl refl (map kept_of c.args.list.now) (slots_of c.args.slots.now.items)) c.in_err-own.field-0.0 c.in_err-own.ensures.fault)

pub fill_if-returns-in_err-first : goal.fill_if-returns-in_err-first
fill_if-returns-in_err-first t c =
    let p = err_from_is_err_and c.from_residual-in_err-first.result c.from_residual-in_err-first.ensures.1 in
    rw (p.1, p.2) (fault_up _ _ (if_first_off c.args.visit.now.program.now.nodes (formed_above c.args.visit.now.program.now.nodes c.requires.formed.formed) c.args.visit.now.place c.requires.stands _ _ _ c.requires.node c.requires.branching c.args.visit.now.taken c.args.visit.now.program.now.declared.ceiling c.index.result.now _ _ (kid_at c.args.visit.now.program.now.nodes (formed_above c.args.visit.now.program.now.nodes c.requires.formed.formed) c.args.visit.now.place c.requires.stands _ _ _ c.requires.node c.requires.branching 0 c.index.result.now c.index.ensures (omega arith)) refl refl (map kept_of c.args.list.now) (slots_of c.args.slots.now.items) (map kept_of c.in_ok-own.own.now) (slots_of c.fill_slot.new.slots.items) c.in_ok-own.ensures.filled c.in_ok-own.ensures.first c.truth_at-truth.result (truth_here c.truth_at-truth.result c.len-at.result c.args.slots.now.items c.fill_slot.new.slots.items c.as_slice.result.now c.truth_at-truth.ensures (let n = c.len-at.ensures in omega (arith, n)) c.as_slice.ensures.value) _ refl _ refl) c.in_err-first.field-0.0 c.in_err-first.ensures)

pub fill_if-returns-in_err-second : goal.fill_if-returns-in_err-second
fill_if-returns-in_err-second t c =
    let p = err_from_is_err_and c.from_residual-in_err-second.result c.from_residual-in_err-second.ensures.1 in
    rw (p.1, p.2) (fault_up _ _ (if_second_off c.args.visit.now.program.now.nodes (formed_above c.args.visit.now.program.now.nodes c.requires.formed.formed) c.args.visit.now.place c.requires.stands _ _ _ c.requires.node c.requires.branching c.args.visit.now.taken c.args.visit.now.program.now.declared.ceiling c.index.result.now c.index-2.result.now _ (kid_at c.args.visit.now.program.now.nodes (formed_above c.args.visit.now.program.now.nodes c.requires.formed.formed) c.args.visit.now.place c.requires.stands _ _ _ c.requires.node c.requires.branching 0 c.index.result.now c.index.ensures (omega arith)) (kid_at c.args.visit.now.program.now.nodes (formed_above c.args.visit.now.program.now.nodes c.requires.formed.formed) c.args.visit.now.place c.requires.stands _ _ _ c.requires.node c.requires.branching 1 c.index-2.result.now c.index-2.ensures (omega arith)) refl (map kept_of c.args.list.now) (slots_of c.args.slots.now.items) (map kept_of c.in_ok-own.own.now) (slots_of c.fill_slot.new.slots.items) c.in_ok-own.ensures.filled c.in_ok-own.ensures.first c.truth_at-truth.result (truth_here c.truth_at-truth.result c.len-at.result c.args.slots.now.items c.fill_slot.new.slots.items c.as_slice.result.now c.truth_at-truth.ensures (let n = c.len-at.ensures in omega (arith, n)) c.as_slice.ensures.value) c.both.result c.both.ensures _ refl (map kept_of c.in_ok-first.first.now) (slots_of c.fill.new.slots.items) c.in_ok-first.ensures) c.in_err-second.field-0.0 c.in_err-second.ensures)

pub fill_if-returns-in_err-third : goal.fill_if-returns-in_err-third
fill_if-returns-in_err-third t c =
    let p = err_from_is_err_and c.from_residual-in_err-third.result c.from_residual-in_err-third.ensures.1 in
    rw (p.1, p.2) (fault_up _ _ (if_third_off c.args.visit.now.program.now.nodes (formed_above c.args.visit.now.program.now.nodes c.requires.formed.formed) c.args.visit.now.place c.requires.stands _ _ _ c.requires.node c.requires.branching c.args.visit.now.taken c.args.visit.now.program.now.declared.ceiling c.index.result.now c.index-2.result.now c.index-3.result.now (kid_at c.args.visit.now.program.now.nodes (formed_above c.args.visit.now.program.now.nodes c.requires.formed.formed) c.args.visit.now.place c.requires.stands _ _ _ c.requires.node c.requires.branching 0 c.index.result.now c.index.ensures (omega arith)) (kid_at c.args.visit.now.program.now.nodes (formed_above c.args.visit.now.program.now.nodes c.requires.formed.formed) c.args.visit.now.place c.requires.stands _ _ _ c.requires.node c.requires.branching 1 c.index-2.result.now c.index-2.ensures (omega arith)) (kid_at c.args.visit.now.program.now.nodes (formed_above c.args.visit.now.program.now.nodes c.requires.formed.formed) c.args.visit.now.place c.requires.stands _ _ _ c.requires.node c.requires.branching 2 c.index-3.result.now c.index-3.ensures (omega arith)) (map kept_of c.args.list.now) (slots_of c.args.slots.now.items) (map kept_of c.in_ok-own.own.now) (slots_of c.fill_slot.new.slots.items) c.in_ok-own.ensures.filled c.in_ok-own.ensures.first c.truth_at-truth.result (truth_here c.truth_at-truth.result c.len-at.result c.args.slots.now.items c.fill_slot.new.slots.items c.as_slice.result.now c.truth_at-truth.ensures (let n = c.len-at.ensures in omega (arith, n)) c.as_slice.ensures.value) c.both.result c.both.ensures c.both-2.result c.both-2.ensures (map kept_of c.in_ok-first.first.now) (slots_of c.fill.new.slots.items) c.in_ok-first.ensures (map kept_of c.in_ok-second.second.now) (slots_of c.fill-2.new.slots.items) c.in_ok-second.ensures) c.in_err-third.field-0.0 c.in_err-third.ensures)

pub fill_if-returns : goal.fill_if-returns
fill_if-returns t c =
    if_filled c.args.visit.now.program.now.nodes (formed_above c.args.visit.now.program.now.nodes c.requires.formed.formed) c.args.visit.now.place c.requires.stands _ _ _ c.requires.node c.requires.branching c.args.visit.now.taken c.args.visit.now.program.now.declared.ceiling c.index.result.now c.index-2.result.now c.index-3.result.now (kid_at c.args.visit.now.program.now.nodes (formed_above c.args.visit.now.program.now.nodes c.requires.formed.formed) c.args.visit.now.place c.requires.stands _ _ _ c.requires.node c.requires.branching 0 c.index.result.now c.index.ensures (omega arith)) (kid_at c.args.visit.now.program.now.nodes (formed_above c.args.visit.now.program.now.nodes c.requires.formed.formed) c.args.visit.now.place c.requires.stands _ _ _ c.requires.node c.requires.branching 1 c.index-2.result.now c.index-2.ensures (omega arith)) (kid_at c.args.visit.now.program.now.nodes (formed_above c.args.visit.now.program.now.nodes c.requires.formed.formed) c.args.visit.now.place c.requires.stands _ _ _ c.requires.node c.requires.branching 2 c.index-3.result.now c.index-3.ensures (omega arith)) (map kept_of c.args.list.now) (slots_of c.args.slots.now.items) (map kept_of c.in_ok-own.own.now) (slots_of c.fill_slot.new.slots.items) c.in_ok-own.ensures.filled c.in_ok-own.ensures.first c.truth_at-truth.result (truth_here c.truth_at-truth.result c.len-at.result c.args.slots.now.items c.fill_slot.new.slots.items c.as_slice.result.now c.truth_at-truth.ensures (let n = c.len-at.ensures in omega (arith, n)) c.as_slice.ensures.value) c.both.result c.both.ensures c.both-2.result c.both-2.ensures (map kept_of c.in_ok-first.first.now) (slots_of c.fill.new.slots.items) c.in_ok-first.ensures (map kept_of c.in_ok-second.second.now) (slots_of c.fill-2.new.slots.items) c.in_ok-second.ensures (map kept_of c.in_ok-third.third.now) (slots_of c.fill-3.new.slots.items) c.in_ok-third.ensures
