use Rattle.std.proofs.Common.{◌∙◌, ap, map, take, [], ◌∷◌, ◌++◌, List}
use Rattle.std.specs.Prelude.{Option, option_map}
use Rattle.std.proofs.lemmas.List.{map-append}
use Rattle.fc_values.specs.Types.{input_of}
use Rattle.value_bounds.specs.BoundValues.{BoundValue}
use Rattle.value_bounds.specs.References.{local_bound_in, local_bounds_in}
use Rattle.value_bounds.specs.declared.bounds.LocalBound.{LocalBound}
use Rattle.change_bounds.specs.Tables.{bound_at}
use Rattle.change_envelopes.specs.Written.{row_by, told_bound}
use Rattle.change_envelopes.proofs.DevicesWritten.{row_more}
use Rattle.change_envelopes.proofs.devices.written_inputs.Goals as goal

pub loop-i-preserved : goal.loop-i-preserved
loop-i-preserved c =
    let b = c.in_ok-written_bound.field-0 in
    let k = c.loop-i.i in
    let is = c.args.inputs.now in
    ap local_bounds_in c.in_ok-push.ensures.items
    ∙ map-append local_bound_in c.loop-i.row.items (b ∷ [])
    ∙ ap (λ (bs : List BoundValue). bs ++ local_bound_in b ∷ []) c.loop-i.invariant
    ∙ ap (λ (v : BoundValue). row_by c.args.bounds.now (map input_of (take k is)) c.args.device ++ v ∷ [])
    (c.in_ok-written_bound.ensures ∙ ap (λ (o : Option LocalBound). told_bound (option_map local_bound_in o)) c.get.ensures.value)
    ∙ row_more (bound_at c.args.bounds.now c.args.device) is k c.loop-i-test.true
