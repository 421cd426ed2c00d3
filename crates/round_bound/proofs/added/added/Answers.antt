use Rattle.std.proofs.Common.{◌∙◌, sym, ap, subst}
use Rattle.fc_nodes.specs.Sorts.{evolution_by}
use Rattle.fc_nodes.specs.Program.{unfolding_of}
use Rattle.growth_facts.specs.Facts.{evolution_at}
use Rattle.fragment_check.specs.Verdicts.{added_by, variable_range}
use Rattle.round_bound.proofs.Small.{ResultFew, pattern_at_few}
use Rattle.round_bound.proofs.Potentials.{added_is, adds}
use Rattle.round_bound.proofs.added.added.Goals as goal

pub levels_of_pattern-requires-clause-few : goal.levels_of_pattern-requires-clause-few
levels_of_pattern-requires-clause-few c = subst (ResultFew c.args.context.now.program.now.declared.ceiling) (sym c.in-Ok.ensures) (pattern_at_few c.args.context.now.program.now c.requires.program c.args.place)

pub returns-in-Ok : goal.returns-in-Ok
returns-in-Ok c = c.levels_of_pattern.ensures ∙ adds c.args.context.now.program.now c.requires.program.formed c.args.context.now.devices c.args.place c.requires.stands c.requires.evolving (evolution_by c.args.is_share) c.in-Ok.pattern c.requires.evolution (sym c.in-Ok.ensures)

pub returns-in-Err : goal.returns-in-Err
returns-in-Err c = sym (added_is c.args.context.now.program.now c.requires.program.formed c.args.context.now.devices c.args.place c.requires.stands c.requires.evolving ∙ ap (added_by c.args.context.now.devices (variable_range (unfolding_of c.args.context.now.program.now)) (evolution_at c.args.context.now.program.now.nodes c.args.place)) (sym c.in-Err.ensures))
