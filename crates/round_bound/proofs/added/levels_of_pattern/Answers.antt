use Rattle.std.proofs.Common.{subst, arith}
use Rattle.std.proofs.Math.Nat.{div-le_self}
use Rattle.fc_nodes.specs.Program.{unfolding_of}
use Rattle.fragment_check.specs.Verdicts.{variable_range}
use Rattle.round_bound.specs.Walks.{PatternFew}
use Rattle.round_bound.proofs.Small.{few_ranks, variable_few}
use Rattle.round_bound.proofs.added.levels_of_pattern.Goals as goal

pub each_stage-requires : goal.each_stage-requires
each_stage-requires c =
    let e = c.ranks.ensures.value in
    let f = few_ranks c.args.context.now.devices c.args.context.now.program.now.declared.ceiling (variable_range (unfolding_of c.args.context.now.program.now) c.in-Acyclic.potential) (variable_few c.args.context.now.program.now c.requires.program c.in-Acyclic.potential) c.requires.program.lawful.most in
    omega (arith, e, f)

pub nonzero_div-greatest : goal.nonzero_div-greatest
nonzero_div-greatest c =
    let f = subst (PatternFew c.args.context.now.program.now.declared.ceiling) c.in-Minimising.is c.requires.few in
    let most = c.requires.program.lawful.most in
    let g = f.1 in
    omega (arith, g)

pub each_stage-requires-in-Minimising : goal.each_stage-requires-in-Minimising
each_stage-requires-in-Minimising c =
    let f = subst (PatternFew c.args.context.now.program.now.declared.ceiling) c.in-Minimising.is c.requires.few in
    let most = c.requires.program.lawful.most in
    let g = f.0 in
    let d = div-le_self c.in-Minimising.greatest c.in-Minimising.growth in
    omega (arith, g, d, most)

pub rounds-requires-clause-some_growth : goal.rounds-requires-clause-some_growth
rounds-requires-clause-some_growth c =
    let f = subst (PatternFew c.args.context.now.program.now.declared.ceiling) c.in-Rising.is c.requires.few in
    let most = c.requires.program.lawful.most in
    f.1

pub rounds-requires-clause-most_growth : goal.rounds-requires-clause-most_growth
rounds-requires-clause-most_growth c =
    let f = subst (PatternFew c.args.context.now.program.now.declared.ceiling) c.in-Rising.is c.requires.few in
    let most = c.requires.program.lawful.most in
    let g = f.2 in
    omega (arith, g, most)

pub rounds-requires-clause-some_rise : goal.rounds-requires-clause-some_rise
rounds-requires-clause-some_rise c =
    let f = subst (PatternFew c.args.context.now.program.now.declared.ceiling) c.in-Rising.is c.requires.few in
    let most = c.requires.program.lawful.most in
    f.3

pub rounds-requires-clause-most_rise : goal.rounds-requires-clause-most_rise
rounds-requires-clause-most_rise c =
    let f = subst (PatternFew c.args.context.now.program.now.declared.ceiling) c.in-Rising.is c.requires.few in
    let most = c.requires.program.lawful.most in
    let g = f.4 in
    omega (arith, g, most)

pub rounds-requires-clause-greatest : goal.rounds-requires-clause-greatest
rounds-requires-clause-greatest c =
    let f = subst (PatternFew c.args.context.now.program.now.declared.ceiling) c.in-Rising.is c.requires.few in
    let most = c.requires.program.lawful.most in
    let g = f.0 in
    omega (arith, g, most)
