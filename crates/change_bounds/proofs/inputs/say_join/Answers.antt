use Rattle.std.proofs.Common.{arith}
use Rattle.value_bounds.specs.References.{local_bound_in}
use Rattle.changes.specs.Changes.{range}
use Rattle.changes.specs.declared.types.Possible.TheVariants as possible
use Rattle.change_bounds.specs.Tables.{bound_at}
use Rattle.change_bounds.proofs.Widened.{join_more, join_whole}
use Rattle.change_bounds.proofs.inputs.say_join.Goals as goal

pub loop-i-preserved : goal.loop-i-preserved
loop-i-preserved c =
    let m = c.min-count.ensures in
    let t = c.loop-i-test.true in
    join_more c.args.inputs.now c.args.values.now c.args.device (bound_at c.args.table.now) (bound_at c.loop-i.table)
    (bound_at c.say.new.table) c.loop-i.i c.index-inputs-i.result (possible.Numbers (range 0 0)) (local_bound_in c.bound_of.result)
    (omega (arith, m, t)) (omega (arith, m, t)) c.bound_of.ensures c.loop-i.invariant c.in_ok-say.ensures

pub returns : goal.returns
returns c =
    join_whole c.args.inputs.now c.args.values.now c.args.device (bound_at c.args.table.now) (bound_at c.loop-i.table) c.loop-i.i
    (let m = c.min-count.ensures in let s = c.loop-i-test.false in omega (arith, m, s)) c.loop-i.invariant
