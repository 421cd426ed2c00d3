use Rattle.fc_parser.proofs.PrintedDerived.{derived_prints}
use Rattle.fc_parser.proofs.laws.derived_is_printable.Goals as goal

pub returns : goal.returns
returns c = derived_prints
