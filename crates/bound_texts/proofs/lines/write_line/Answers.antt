use Rattle.std.proofs.Common.{rules, append_assoc}
use Rattle.bound_texts.proofs.lines.write_line.Goals as goal

pub returns : goal.returns
returns c = search (rules, append_assoc)
