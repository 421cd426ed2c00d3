use Rattle.std.proofs.Common.{sym}
use Rattle.fc_io.proofs.FirstLine.{size_at, size_all}
use Rattle.fc_io.proofs.lines.first_line.Goals as goal

pub returns-in-Some-clause-size : goal.returns-in-Some-clause-size
returns-in-Some-clause-size c =
    let found = c.in-Some.ensures in
    sym (size_at c.args.text.now c.in-Some.at found.0.high found.1 found.0.before)

pub returns-in-None-clause-size : goal.returns-in-None-clause-size
returns-in-None-clause-size c = sym (size_all c.args.text.now c.in-None.ensures)
