use Rattle.std.proofs.Common.{◌∙◌, refl, sym, arith}
use Rattle.fragment_check.proofs.Steps.{some_kid, kid_stands, nbr_term}
use Rattle.fragment_check.proofs.facts.is_heard.Goals as goal

pub index-requires : goal.index-requires
index-requires c =
    let l = some_kid c.args.program.now.nodes c.node-node.ensures.program.formed c.args.place c.requires _ _ _ c.node-node.ensures.node (sym c.is_nbr.ensures ∙ c.if-is_nbr.true) in
    omega (arith, l)

pub is_own-requires-then-is_nbr : goal.is_own-requires-then-is_nbr
is_own-requires-then-is_nbr c =
    kid_stands c.args.program.now.nodes c.node-node.ensures.program.formed c.args.place c.requires _ _ _ c.node-node.ensures.node (sym c.is_nbr.ensures ∙ c.if-is_nbr.true) _ c.index.ensures

pub returns-then-is_nbr : goal.returns-then-is_nbr
returns-then-is_nbr c =
    let t = nbr_term c.args.program.now.nodes c.node-node.ensures.program.formed c.args.place c.requires _ _ _ c.node-node.ensures.node (sym c.is_nbr.ensures ∙ c.if-is_nbr.true) _ c.index.ensures in
    let e = c.is_own-then-is_nbr.ensures in
    let f = c.if-own.false in
    rw (t, e, f) refl
