use Rattle.std.proofs.Common.{◌≡◌, ◌≤◌, take}
use Rattle.fc_lexer.specs.Kinds.{number_value}
use Rattle.fc_lexer.proofs.kinds.number.Given as goal

abbrev pub invariant-loop-digit : goal.invariant-loop-digit
invariant-loop-digit l = (l.value ≡ number_value (take l.digit-index l.digits)) × (l.value ≤ 1000001)
