use Rattle.std.proofs.Common.{ap, ◌∙◌}
use Rattle.edit_commands.specs.Narrow.{open_of}
use Rattle.edit_commands.proofs.Halves.{open_last}
use Rattle.edit_commands.proofs.values.push_half.Goals as goal

pub returns : goal.returns
returns c = ap open_of c.in_ok-push.ensures.items ∙ open_last _ _
