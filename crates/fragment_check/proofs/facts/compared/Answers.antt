use Rattle.std.proofs.Common.{◌∙◌, refl, sym, arith}
use Rattle.fragment_check.proofs.Steps.{some_kid, kid_stands, nbr_term}
use Rattle.fragment_check.proofs.facts.compared.Goals as goal

pub index-requires : goal.index-requires
index-requires c =
    let l = some_kid c.args.program.now.nodes c.node-node.ensures.program.formed c.args.a c.requires.first _ _ _ c.node-node.ensures.node (sym c.is_nbr.ensures ∙ c.if-is_nbr.true) in
    omega (arith, l)

pub int_variable-potential-requires : goal.int_variable-potential-requires
int_variable-potential-requires c =
    kid_stands c.args.program.now.nodes c.node-node.ensures.program.formed c.args.a c.requires.first _ _ _ c.node-node.ensures.node (sym c.is_nbr.ensures ∙ c.if-is_nbr.true) _ c.index.ensures

pub returns-then-is_nbr : goal.returns-then-is_nbr
returns-then-is_nbr c =
    let t = nbr_term c.args.program.now.nodes c.node-node.ensures.program.formed c.args.a c.requires.first _ _ _ c.node-node.ensures.node (sym c.is_nbr.ensures ∙ c.if-is_nbr.true) _ c.index.ensures in
    let e = c.same_binder.ensures in
    let f = c.int_variable-potential.ensures in
    let g = c.int_variable.ensures in
    rw (t, e, f, g) refl
