use Rattle.std.proofs.Common.{◌∙◌, ap, arith}
use Rattle.std.proofs.lemmas.List.{length-map}
use Rattle.fc_syntax.specs.Terms.{program_of, declaration_of}
use Rattle.fc_syntax.specs.declared.tree.Program.{Program}
use Rattle.fc_values.specs.Types.{declarations_of}
use Rattle.fc_types.specs.Before.{with_declarations, declared_before, declared_by, nothing_declared}
use Rattle.fc_nodes.specs.Program.{unfolding_of}
use Rattle.unfold.proofs.Whole.{whole_program, whole_unfolding}
use Rattle.unfold.proofs.unfolding.unfold.Goals as goal

pub count_nodes-requires : goal.count_nodes-requires
count_nodes-requires c =
    c.in_ok-known.ensures ∙ ap (λ (p : Program). with_declarations nothing_declared (program_of p)) c.program-program.ensures.value

pub new-requires : goal.new-requires
new-requires c =
    let v = c.program-program.ensures.value in
    let t = c.program-program.ensures.typed in
    let few = t.few in
    let l = length-map c.args.typed.now.program.decls.items declaration_of in
    let d = c.in_ok-declared.ensures ∙ ap declared_before c.in_ok-known.ensures ∙ ap (λ (p : Program). declared_by (program_of p)) v in
    let s = c.in_ok-size.ensures in
    let small = c.if-size-gt-MOST_NODES.false in
    whole_program (program_of c.args.typed.now.program) (declarations_of c.in_ok-declared.declared) c.in_ok-nodes.nodes.items d t.printable t.typed (omega (arith, few, l)) (rw v at c.in_ok-nodes.ensures) (omega (arith, s, small))

pub returns-clause-unfolding : goal.returns-clause-unfolding
returns-clause-unfolding c =
    let v = c.program-program.ensures.value in
    let d = c.in_ok-declared.ensures ∙ ap declared_before c.in_ok-known.ensures ∙ ap (λ (p : Program). declared_by (program_of p)) v in
    ap unfolding_of c.in_ok-new.ensures ∙ whole_unfolding (program_of c.args.typed.now.program) (declarations_of c.in_ok-declared.declared) c.in_ok-nodes.nodes.items d (rw v at c.in_ok-nodes.ensures)
