use Rattle.fc_lexer.proofs.Spans.{all_rise}
use Rattle.fc_lexer.proofs.laws.spans_rise.Goals as goal

pub returns : goal.returns
returns c = all_rise
