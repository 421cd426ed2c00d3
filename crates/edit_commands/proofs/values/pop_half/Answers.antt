use Rattle.std.proofs.Common.{arith}
use Rattle.edit_commands.proofs.Halves.{popped}
use Rattle.edit_commands.proofs.values.pop_half.Goals as goal

pub returns : goal.returns
returns c = popped c.args.halves.now.items c.pop.new.self.items c.pop.result _ c.pop.ensures.items (omega (arith, c.args.halves.now.ok.0)) c.pop.ensures.variant
