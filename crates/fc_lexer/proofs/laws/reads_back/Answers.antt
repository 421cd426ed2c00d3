use Rattle.fc_lexer.proofs.BackAgain.{reads_again}
use Rattle.fc_lexer.proofs.laws.reads_back.Goals as goal

pub returns : goal.returns
returns c = reads_again
