use Rattle.command_frame.proofs.Resuming.{tables_resume}
use Rattle.command_frame.proofs.laws.tables_resume.Goals as goal

pub returns : goal.returns
returns c = tables_resume c.tables_read_back.ensures
