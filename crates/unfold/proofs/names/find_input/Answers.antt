use Rattle.std.proofs.Common.{sym}
use Rattle.unfold.proofs.Inputs.{input_found, input_missed}
use Rattle.unfold.proofs.names.find_input.Goals as goal

pub returns-in-Some : goal.returns-in-Some
returns-in-Some c =
    rw (← c.as_slice.ensures.value) (input_found c.as_slice.result.now c.args.known.now.inputs.entries c.in-Some.number (c.in-Some.field-0-1.now, c.in-Some.ty.now) c.in-Some.ensures.entry c.in-Some.ensures.index)

pub returns-in-None : goal.returns-in-None
returns-in-None c = rw (← c.as_slice.ensures.value) (input_missed c.as_slice.result.now c.args.known.now.inputs.entries (sym c.in-None.ensures.value))
