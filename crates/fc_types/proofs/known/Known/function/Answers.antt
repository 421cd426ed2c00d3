use Rattle.std.proofs.Common.{rules}
use Rattle.fc_types.proofs.Entries.{function_found}
use Rattle.fc_types.proofs.known.Known.function.Goals as goal

pub returns : goal.returns
returns c = search (rules, function_found c.args.name.now c.args.self.now.functions.entries)
