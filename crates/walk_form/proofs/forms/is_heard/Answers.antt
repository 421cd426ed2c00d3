use Rattle.std.proofs.Common.{◌∙◌, sym, arith}
use Rattle.walk_form.proofs.Reading.{some_kid, kid_stands, heard_is}
use Rattle.walk_form.proofs.forms.is_heard.Goals as goal

pub index-requires : goal.index-requires
index-requires c =
    let l = some_kid c.args.program.now.nodes c.node-node.ensures.program.formed c.args.place c.requires _ _ _ c.node-node.ensures.node (sym c.is_nbr.ensures ∙ c.if-is_nbr.true) in
    omega (arith, l)

pub is_own-requires : goal.is_own-requires
is_own-requires c =
    kid_stands c.args.program.now.nodes c.node-node.ensures.program.formed c.args.place c.requires _ _ _ c.node-node.ensures.node (sym c.is_nbr.ensures ∙ c.if-is_nbr.true) _ c.index.ensures

pub returns-then-is_nbr : goal.returns-then-is_nbr
returns-then-is_nbr c =
    c.is_own.ensures
    ∙ sym (heard_is c.args.program.now.nodes c.node-node.ensures.program.formed c.args.place c.requires _ _ _ c.node-node.ensures.node (sym c.is_nbr.ensures ∙ c.if-is_nbr.true) _ c.index.ensures)
