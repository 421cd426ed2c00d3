use Rattle.std.proofs.Common.{◌∙◌, ap}
use Rattle.std.specs.Prelude.{Option, option_map}
use Rattle.value_bounds.specs.References.{local_bound_in}
use Rattle.value_bounds.specs.declared.bounds.LocalBound.{LocalBound}
use Rattle.change_bounds.specs.Tables.{widened}
use Rattle.change_bounds.proofs.Widened.{widen_bound}
use Rattle.change_bounds.proofs.inputs.say.Goals as goal

pub returns : goal.returns
returns c =
    widen_bound c.args.table.now c.insert.new.self c.args.place c.in_ok-joint.joint c.in_ok-insert.ensures.updates
    (local_bound_in c.args.bound)
    (c.in_ok-joint.ensures
    ∙ ap (λ (o : Option LocalBound). widened (option_map local_bound_in o) (local_bound_in c.args.bound)) c.get.ensures.value)
