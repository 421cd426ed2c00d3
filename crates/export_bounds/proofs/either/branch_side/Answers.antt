use Rattle.std.proofs.Common.{arith}
use Rattle.bound_firing.proofs.SlotReads.{slot_read}
use Rattle.export_bounds.proofs.either.branch_side.Goals as goal

pub returns-in-Both : goal.returns-in-Both
returns-in-Both c =
    let l = c.requires.first in
    let m = c.requires.second in
    let e = slot_read c.args.firsts.now c.args.at c.index-firsts-at.result c.index-firsts-at.is (omega (arith, l)) in
    let f = slot_read c.args.seconds.now c.args.at c.index-seconds-at.result c.index-seconds-at.is
    (omega (arith, m)) in
    rw (c.in-Both.is, e, f) (rw (c.may_be.ensures, c.may_be-in-Both.ensures) at c.side_of.ensures)
