use Rattle.std.proofs.Common.{refl}
use Rattle.fc_syntax.specs.Terms.{program_of}
use Rattle.unfold.proofs.Firsts.{has_main}
use Rattle.unfold.proofs.counting.main_of.Goals as goal

pub loop-decl-init : goal.loop-decl-init
loop-decl-init c = record { same = refl; there = has_main (program_of c.args.program.now) c.requires }
