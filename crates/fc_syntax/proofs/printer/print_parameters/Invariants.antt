use Rattle.std.proofs.Common.{◌≡◌, ◌++◌, map, take}
use Rattle.fc_syntax.specs.Terms.{parameter_of}
use Rattle.fc_syntax.specs.Text.{behind_commas, parameter_text}
use Rattle.fc_syntax.proofs.printer.print_parameters.Given as goal

abbrev pub invariant-loop-param : goal.invariant-loop-param
invariant-loop-param l = l.out.items ≡ l.initial.out.items ++ behind_commas (map parameter_text (map parameter_of (take l.param-index l.rest)))
