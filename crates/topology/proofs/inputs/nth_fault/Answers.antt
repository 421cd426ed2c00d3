use Rattle.std.proofs.Common.{◌∙◌, sym, ap}
use Rattle.fc_values.specs.declared.types.InputDecl.{InputDecl}
use Rattle.fc_values.specs.Values.{local_of}
use Rattle.topology.specs.Inputs.{input_fault}
use Rattle.topology.proofs.Sorting.{nth_at, nth_past}
use Rattle.topology.proofs.inputs.nth_fault.Goals as goal

pub returns-in-Some : goal.returns-in-Some
returns-in-Some c =
    c.input_fault.ensures
    ∙ ap (λ (d : InputDecl). input_fault d.ty (local_of c.args.value.now)) c.in-Some.ensures.lookup.1
    ∙ sym (nth_at c.args.inputs.now c.args.number c.in-Some.input.now (local_of c.args.value.now) c.in-Some.ensures.lookup.3.0)

pub returns-in-None : goal.returns-in-None
returns-in-None c = sym (nth_past c.args.inputs.now c.args.number (local_of c.args.value.now) c.in-None.ensures.lookup.3)
