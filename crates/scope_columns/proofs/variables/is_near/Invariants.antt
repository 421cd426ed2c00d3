use Rattle.std.proofs.Common.{◌≡◌, drop}
use Rattle.fc_values.specs.Fields.{is_in}
use Rattle.alignment.specs.Environments.{near_numbers}
use Rattle.alignment.specs.References.{nears_of}
use Rattle.scope_columns.proofs.variables.is_near.Given as goal

abbrev pub invariant-loop-n : goal.invariant-loop-n
invariant-loop-n l =
    is_in l.device (near_numbers (nears_of l.near)) ≡ is_in l.device (near_numbers (nears_of (drop l.n-index l.near)))
