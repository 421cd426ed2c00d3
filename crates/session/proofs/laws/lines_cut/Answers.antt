use Rattle.session.proofs.Lines.{lines_cut}
use Rattle.session.proofs.laws.lines_cut.Goals as goal

pub returns : goal.returns
returns c = lines_cut
