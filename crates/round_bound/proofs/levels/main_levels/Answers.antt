use Rattle.std.proofs.Common.{◌≡◌, ◌∙◌, ◌++◌, ap, sym, subst, arith}
use Rattle.fc_nodes.specs.Terms.{term_at}
use Rattle.fc_nodes.specs.Program.{unfolding_of}
use Rattle.fragment_check.specs.Levels.{level_of, node_levels}
use Rattle.fragment_check.specs.Verdicts.{stages_of}
use Rattle.round_bound.proofs.Small.{stages_few}
use Rattle.round_bound.proofs.LevelBounds.{AllAtMost, level_few, node_levels_few, at_most_at}
use Rattle.round_bound.proofs.levels.main_levels.Goals as goal

pub returns-clause-few : goal.returns-clause-few
returns-clause-few c =
    let e : c.in_ok-found.found.level ≡ level_of (stages_of (unfolding_of c.args.program.now) c.args.devices) 0 1 c.size.result (λ q. 0) (term_at c.args.program.now.nodes 0) = c.in_ok-found.ensures.level in
    let r = level_few (stages_of (unfolding_of c.args.program.now) c.args.devices) (stages_few c.args.program.now c.size.ensures.program c.args.devices) 1 0 1 c.size.result (λ q. 0) (term_at c.args.program.now.nodes 0) (omega arith) (λ q. omega arith) in
    let w = c.size.ensures.program.formed.whole in
    let l = c.size.ensures.program.short in
    omega (arith, e, r, w, l)

pub returns-clause-each : goal.returns-clause-each
returns-clause-each c = λ place level e.
    let w = c.size.ensures.program.formed.whole in
    let l = c.size.ensures.program.short in
    let few = stages_few c.args.program.now c.size.ensures.program c.args.devices in
    let all = node_levels (stages_of (unfolding_of c.args.program.now) c.args.devices) 0 1 c.size.result (λ q. 0) (term_at c.args.program.now.nodes 0) in
    let r = node_levels_few (stages_of (unfolding_of c.args.program.now) c.args.devices) few 6144002049 1 0 1 c.size.result (λ q. 0) (term_at c.args.program.now.nodes 0) (omega arith) (λ q. omega arith) (omega (arith, w, l)) in
    let these : c.walk.new.levels.items ≡ all = c.in_ok-found.ensures.levels ∙ ap (λ xs. xs ++ all) c.in_ok-levels.ensures.items in
    let k = at_most_at 6144002049 c.walk.new.levels.items (subst (AllAtMost 6144002049) (sym these) r) place level e in
    omega (arith, k)
