use Rattle.std.proofs.Common.{◌∙◌, sym, subst}
use Rattle.fc_values.specs.declared.builtins.Builtin.TheVariants as op
use Rattle.fc_nodes.specs.Terms.{HasNode, sort_of}
use Rattle.fc_values.specs.Types.{type_of}
use Rattle.fragment_check.proofs.Arguments.{rise_sort, three_from}
use Rattle.fragment_check.proofs.forms.rise_kids.Goals as goal

pub returns-then-kids-eq3 : goal.returns-then-kids-eq3
returns-then-kids-eq3 c =
    three_from c.args.program.now.nodes c.node-node.ensures.program.formed c.args.place c.requires op.Rise (type_of c.node-node.result.now.ty) c.as_slice-kids.result.now c.node-node.result.now.kids.items
    (subst (λ s. HasNode c.args.program.now.nodes c.args.place s (type_of c.node-node.result.now.ty) c.node-node.result.now.kids.items) (rise_sort (sort_of c.node-node.result.now.op) (sym c.is_rise.ensures ∙ c.if-is_rise.true)) c.node-node.ensures.node) c.as_slice-kids.ensures.value c.if-kids-eq3.true
