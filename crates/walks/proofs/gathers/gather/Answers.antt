use Rattle.std.proofs.Common.{◌≡◌, List, sym, ap, subst}
use Rattle.walks.specs.declared.types.WalkStep.{WalkStep}
use Rattle.walks.specs.Walks.{CostsValue, IsCosts}
use Rattle.walks.specs.Gathering.{added_of, gathered}
use Rattle.walks.proofs.Gathered.{gathered_costs, each_rises}
use Rattle.walks.proofs.gathers.gather.Goals as goal

pub all_steps-requires-clause-add : goal.all_steps-requires-clause-add
all_steps-requires-clause-add c = each_rises c.args.ceiling c.args.net.now (added_of c.args.add) c.devices.ensures.network.rising c.requires.add

pub returns-clause-gathered : goal.returns-clause-gathered
returns-clause-gathered c = ap (λ (xs : List WalkStep). record { ceiling = c.args.ceiling; start = c.args.start.items; steps = xs }) c.in_ok-steps.ensures

pub returns-clause-costs : goal.returns-clause-costs
returns-clause-costs c =
    let same : ◌≡◌ {A = CostsValue} (record { ceiling = c.args.ceiling; start = c.args.start.items; steps = c.in_ok-steps.steps.items }) (gathered c.args.ceiling c.args.net.now c.args.start.items (added_of c.args.add))
    = ap (λ (xs : List WalkStep). record { ceiling = c.args.ceiling; start = c.args.start.items; steps = xs }) c.in_ok-steps.ensures in
    let law = c.neighbours_are_mutual.ensures in
    let net = c.devices.ensures.network in
    subst IsCosts (sym same) (gathered_costs c.args.ceiling c.args.net.now c.args.start.items (added_of c.args.add) net
    (record { rising = λ d. law.rising c.args.net.now d net; there = λ d e w k. law.there c.args.net.now d e w net k; both = λ d e w k. law.mutual c.args.net.now d e w net k })
    c.requires.devices c.requires.starts c.requires.add)
