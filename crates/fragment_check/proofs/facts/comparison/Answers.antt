use Rattle.std.proofs.Common.{◌≡◌, ◌∙◌, sym, subst, length}
use Rattle.fragment_check.specs.Facts.{InRow}
use Rattle.fragment_check.proofs.Steps.{kids_row, first_stands, second_stands, compared_is, at_kids}
use Rattle.fragment_check.proofs.facts.comparison.Goals as goal

pub compared-requires-clause-first : goal.compared-requires-clause-first
compared-requires-clause-first c =
    first_stands c.args.program.now.nodes c.args.place c.as_slice-kids.result.now c.if-kids-eq2.true
    (subst (InRow c.args.program.now.nodes c.args.place) (sym c.as_slice-kids.ensures.value) (kids_row c.args.program.now.nodes c.node-node.ensures.program.formed c.args.place c.requires _ _ _ c.node-node.ensures.node))

pub compared-requires-clause-second : goal.compared-requires-clause-second
compared-requires-clause-second c =
    second_stands c.args.program.now.nodes c.args.place c.as_slice-kids.result.now c.if-kids-eq2.true
    (subst (InRow c.args.program.now.nodes c.args.place) (sym c.as_slice-kids.ensures.value) (kids_row c.args.program.now.nodes c.node-node.ensures.program.formed c.args.place c.requires _ _ _ c.node-node.ensures.node))

pub returns-then-kids-eq2 : goal.returns-then-kids-eq2
returns-then-kids-eq2 c =
    let e = compared_is c.args.program.now.nodes c.node-node.ensures.program.formed c.args.place _ _ _ c.node-node.ensures.node (sym c.is_less.ensures ∙ c.if-is_less.true)
    (subst (λ ks. length ks ≡ 2) c.as_slice-kids.ensures.value c.if-kids-eq2.true) in
    c.compared.ensures ∙ at_kids c.args.program.now.nodes c.as_slice-kids.ensures.value ∙ sym e
