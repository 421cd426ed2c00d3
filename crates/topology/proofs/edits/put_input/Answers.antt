use Rattle.std.proofs.lemmas.List.{map-set}
use Rattle.fc_values.specs.Values.{local_of}
use Rattle.topology.proofs.edits.put_input.Goals as goal

pub returns-clause-inputs : goal.returns-clause-inputs
returns-clause-inputs c = map-set local_of c.args.device.now.inputs.items c.args.input c.args.value
