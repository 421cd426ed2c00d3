use Rattle.std.proofs.Common.{map, ◌∙◌, sym}
use Rattle.fc_values.specs.Values.{local_of}
use Rattle.fc_nodes.specs.Program.{unfolding_of}
use Rattle.edit_commands.proofs.Pokes.{no_main, fitting, not_so}
use Rattle.edit_commands.proofs.judging.poke.Goals as goal

pub returns-then-not-fits_main-clause-refused : goal.returns-then-not-fits_main-clause-refused
returns-then-not-fits_main-clause-refused c =
    no_main (unfolding_of c.args.program.now) c.args.net.now c.args.device (local_of c.args.value) (map local_of c.args.kept.items) (sym c.is_there.ensures ∙ c.if-not-is_there.false)
    (not_so c.fits_main.result c.fits_main.ensures.value.1 c.if-not-fits_main.true)

pub returns-in-Ok-clause-allowed : goal.returns-in-Ok-clause-allowed
returns-in-Ok-clause-allowed c =
    fitting (unfolding_of c.args.program.now) c.args.net.now c.args.device (local_of c.args.value) (map local_of c.args.kept.items) c.in-Ok.export (sym c.is_there.ensures ∙ c.if-not-is_there.false)
    (c.fits_main.ensures.value.0 c.if-not-fits_main.false) c.in-Ok.ensures
