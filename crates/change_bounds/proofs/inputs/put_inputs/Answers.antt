use Rattle.std.proofs.Common.{◌∙◌, ap}
use Rattle.fc_values.specs.declared.values.Local.{Local}
use Rattle.fc_values.specs.Values.{local_of}
use Rattle.value_bounds.specs.BoundValues.{exactly}
use Rattle.value_bounds.specs.References.{local_bound_in}
use Rattle.change_bounds.specs.Tables.{bound_at}
use Rattle.change_bounds.proofs.Widened.{put_bound, value_more}
use Rattle.change_bounds.proofs.inputs.put_inputs.Goals as goal

pub loop-i-preserved : goal.loop-i-preserved
loop-i-preserved c = λ d i.
    let k = c.loop-i.i in
    let v = c.index-values-i.result in
    put_bound c.loop-i.table c.insert.new.self (c.args.device, k) c.in_ok-exactly.field-0 c.in_ok-insert.ensures.updates d i
    ∙ value_more c.args.values.now k v c.loop-i-test.true c.args.device (bound_at c.args.table.now) (bound_at c.loop-i.table)
    (local_bound_in c.in_ok-exactly.field-0)
    (c.in_ok-exactly.ensures ∙ ap (λ (x : Local). exactly (local_of x)) c.index-values-i.is) c.loop-i.invariant d i
