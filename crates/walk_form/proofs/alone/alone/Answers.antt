use Rattle.std.proofs.Common.{◌∙◌, ap, arith}
use Rattle.fc_values.specs.Types.{declarations_of}
use Rattle.fc_nodes.specs.Program.{Program}
use Rattle.fc_nodes.specs.Terms.{term_at}
use Rattle.walk_form.proofs.Laying.{ends_within, is_alone}
use Rattle.walk_form.proofs.Parts.{part_placed, part_span}
use Rattle.walk_form.proofs.alone.alone.Goals as goal

pub nodes_alone-requires-clause-end : goal.nodes_alone-requires-clause-end
nodes_alone-requires-clause-end c =
    ends_within c.args.program.now c.args.term c.declared.ensures.program (part_span c.args.program.now c.args.term c.requires)
    (part_placed c.args.program.now c.args.term c.declared.ensures.program c.requires)

pub nodes_alone-requires-clause-from : goal.nodes_alone-requires-clause-from
nodes_alone-requires-clause-from c = (part_placed c.args.program.now c.args.term c.declared.ensures.program c.requires).low

pub nodes_alone-requires-clause-few : goal.nodes_alone-requires-clause-few
nodes_alone-requires-clause-few c =
    let w = (part_span c.args.program.now c.args.term c.requires).stands.within in
    let s = c.declared.ensures.program.short in
    omega (arith, w, s)

pub new-requires : goal.new-requires
new-requires c =
    (is_alone c.args.program.now c.args.term c.in_ok-nodes.nodes.items (declarations_of c.in_ok-declared.declared) c.declared.ensures.program (c.in_ok-declared.ensures ∙ c.declared.ensures.value)
    (part_span c.args.program.now c.args.term c.requires) (part_placed c.args.program.now c.args.term c.declared.ensures.program c.requires) c.in_ok-nodes.ensures).0

pub returns-clause-main : goal.returns-clause-main
returns-clause-main c =
    ap (λ (p : Program). term_at p.nodes 0) c.in_ok-new.ensures
    ∙ (is_alone c.args.program.now c.args.term c.in_ok-nodes.nodes.items (declarations_of c.in_ok-declared.declared) c.declared.ensures.program (c.in_ok-declared.ensures ∙ c.declared.ensures.value)
    (part_span c.args.program.now c.args.term c.requires) (part_placed c.args.program.now c.args.term c.declared.ensures.program c.requires) c.in_ok-nodes.ensures).1
