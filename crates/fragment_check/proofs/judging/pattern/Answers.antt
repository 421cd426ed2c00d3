use Rattle.std.proofs.Common.{◌∙◌, arith}
use Rattle.fragment_check.proofs.Evolving.{some_body, body_stands, pattern_is}
use Rattle.fragment_check.proofs.judging.pattern.Goals as goal

pub index-requires : goal.index-requires
index-requires c =
    let l = some_body c.args.program.now.nodes c.node-node.ensures.program.formed c.args.rep _ _ _ c.node-node.ensures.node c.requires.evolving in
    omega (arith, l)

pub body_pattern-requires-clause-stands : goal.body_pattern-requires-clause-stands
body_pattern-requires-clause-stands c =
    body_stands c.args.program.now.nodes c.node-node.ensures.program.formed c.args.rep _ _ _ c.node-node.ensures.node c.requires.evolving _ c.index.ensures

pub returns : goal.returns
returns c =
    c.body_pattern.ensures
    ∙ pattern_is c.args.program.now c.node-node.ensures.program.formed c.args.rep _ _ _ c.node-node.ensures.node c.requires.evolving _ c.index.ensures c.is_share.result c.is_share.ensures
