use Rattle.std.proofs.Common.{◌∙◌, sym, subst}
use Rattle.fc_values.specs.declared.builtins.Builtin.TheVariants as op
use Rattle.fc_values.specs.Types.{type_of}
use Rattle.fc_nodes.specs.Terms.{HasNode, sort_of}
use Rattle.fragment_check.proofs.Arguments.{hood_sort, two_from}
use Rattle.walk_form.proofs.forms.hood_kids.Goals as goal

pub returns-then-kids-eq2-clause-kids : goal.returns-then-kids-eq2-clause-kids
returns-then-kids-eq2-clause-kids c =
    two_from c.args.program.now.nodes c.node-node.ensures.program.formed c.args.place c.requires op.MinHoodLoc (type_of c.node-node.result.now.ty) c.as_slice-kids.result.now c.node-node.result.now.kids.items
    (subst (λ s. HasNode c.args.program.now.nodes c.args.place s (type_of c.node-node.result.now.ty) c.node-node.result.now.kids.items) (hood_sort (sort_of c.node-node.result.now.op) (sym c.is_hood.ensures ∙ c.if-is_hood.true)) c.node-node.ensures.node)
    c.as_slice-kids.ensures.value c.if-kids-eq2.true
