use Rattle.std.proofs.Common.{arith, sym, ◌∙◌, ap}
use Rattle.fc_nodes.proofs.Places.{formed_above}
use Rattle.fc_nodes.proofs.Kids.{kids_stand}
use Rattle.fc_nodes.specs.Program.{unfolding_of}
use Rattle.interval_facts.proofs.Lengths.{place_there}
use Rattle.growth_facts.specs.Facts.{facts_at}
use Rattle.fc_nodes.specs.Sorts.{evolution_by}
use Rattle.growth_facts.proofs.Joins.{node_joined_as}
use Rattle.growth_facts.proofs.Occurs.{deep_uses}
use Rattle.growth_facts.proofs.Ranges.{least_there}
use Rattle.growth_facts.proofs.walk.+facts_below.Goals as goal

pub facts_below-at-requires : goal.facts_below-at-requires
facts_below-at-requires t c = place_there c.args.program.now c.node-node.ensures.program c.args.ranges.now c.requires.ranges c.args.place c.requires.stands.within

pub facts_below-kids_below-below-requires : goal.facts_below-kids_below-below-requires
facts_below-kids_below-below-requires t c =
    let d = c.decreases in
    let w = c.requires.stands.within in
    let stand = kids_stand c.args.program.now.nodes (formed_above c.args.program.now.nodes c.node-node.ensures.program.formed) c.args.place c.requires.stands _ _ _ c.node-node.ensures.node in
    (omega (arith, d, w), (c.requires.ranges, rw c.as_slice-kids.ensures.value stand))

pub facts_below-returns-then-is_deep : goal.facts_below-returns-then-is_deep
facts_below-returns-then-is_deep t c =
    let P = c.args.program.now in
    let e = evolution_by c.args.variable.now.by_share in
    let x = c.args.variable.now.place in
    let kids = c.as_slice-kids.result.now in
    node_joined_as P (formed_above P.nodes c.node-node.ensures.program.formed) e x c.args.place c.requires.stands _ _ _ c.node-node.ensures.node _ _ kids _
    (ap (λ D. D.ceiling) c.declared.ensures.value)
    (c.least_integer-least.ensures ∙ least_there (unfolding_of P) c.args.ranges.now c.requires.ranges c.args.place _ c.at.ensures)
    c.as_slice-kids.ensures.value
    (c.closed_facts.ensures e x (facts_at P e x kids) (c.occurs-uses.ensures ∙ deep_uses P (formed_above P.nodes c.node-node.ensures.program.formed) e x c.args.place c.requires.stands _ _ _ kids c.node-node.ensures.node (sym c.is_deep.ensures ∙ c.if-is_deep.true) c.as_slice-kids.ensures.value))

pub facts_below-returns : goal.facts_below-returns
facts_below-returns t c =
    let P = c.args.program.now in
    let e = evolution_by c.args.variable.now.by_share in
    let x = c.args.variable.now.place in
    let kids = c.as_slice-kids.result.now in
    node_joined_as P (formed_above P.nodes c.node-node.ensures.program.formed) e x c.args.place c.requires.stands _ _ _ c.node-node.ensures.node _ _ kids _
    (ap (λ D. D.ceiling) c.declared.ensures.value)
    (c.least_integer-least.ensures ∙ least_there (unfolding_of P) c.args.ranges.now c.requires.ranges c.args.place _ c.at.ensures)
    c.as_slice-kids.ensures.value
    (c.join.ensures (facts_at P e x kids) c.kids_below-below.ensures)
