use Rattle.fc_parser.proofs.DeclarationCounts.{few_declared}
use Rattle.fc_parser.proofs.laws.few_declarations.Goals as goal

pub returns : goal.returns
returns c = few_declared
