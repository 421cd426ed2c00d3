use Rattle.std.proofs.Common.{rules}
use Rattle.fc_types.proofs.Entries.{input_found}
use Rattle.fc_types.proofs.known.Known.input.Goals as goal

pub returns : goal.returns
returns c = search (rules, input_found c.args.name.now c.args.self.now.inputs.entries)
