use Rattle.std.proofs.Common.{arith, ◌∙◌, ap}
use Rattle.value_bounds.specs.References.{local_bound_in}
use Rattle.bound_firing.proofs.SlotReads.{slot_read}
use Rattle.export_bounds.proofs.SlotSteps.{slot_written}
use Rattle.export_bounds.proofs.either.widen_slot.Goals as goal

pub returns-in_ok-seconds-in-Both : goal.returns-in_ok-seconds-in-Both
returns-in_ok-seconds-in-Both c =
    let l = c.requires.first in
    let m = c.requires.second in
    let e = slot_read c.args.firsts.now c.args.at c.index-firsts-at.result c.index-firsts-at.is (omega (arith, l)) in
    let f = slot_read c.args.seconds.now c.args.at c.index-seconds-at.result c.index-seconds-at.is
    (omega (arith, m)) ∙ ap local_bound_in c.index-seconds-at.is in
    slot_written c.args.side c.args.at c.args.firsts.now c.args.seconds.now c.in_ok-seconds-in-Both.field-0
    (omega (arith, m)) (rw (c.in-Both.is, e, f) c.in_ok-seconds-in-Both.ensures)

pub returns-in_ok-seconds-in-First : goal.returns-in_ok-seconds-in-First
returns-in_ok-seconds-in-First c =
    let l = c.requires.first in
    let m = c.requires.second in
    let e = slot_read c.args.firsts.now c.args.at c.index-firsts-at-in-First.result c.index-firsts-at-in-First.is
    (omega (arith, l)) in
    slot_written c.args.side c.args.at c.args.firsts.now c.args.seconds.now c.in_ok-seconds-in-First.field-0
    (omega (arith, m)) (rw (c.in-First.is, e) c.in_ok-seconds-in-First.ensures)
