use Rattle.std.proofs.Common.{◌≡◌, [], map, take, drop}
use Rattle.fc_syntax.specs.Terms.{parameter_of}
use Rattle.fc_types.specs.Judging.{parameter_fault}
use Rattle.fc_types.proofs.check.check_parameters.Given as goal

abbrev pub invariant-loop-index : goal.invariant-loop-index
invariant-loop-index l = parameter_fault (map parameter_of (take l.index l.params)) (map parameter_of (drop l.index l.params)) ≡ parameter_fault [] (map parameter_of l.params)
