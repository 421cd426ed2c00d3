use Rattle.std.proofs.Common.{◌∙◌, sym, subst}
use Rattle.fc_values.specs.Types.{declarations_of}
use Rattle.closed_terms.specs.Parts.{IsClosedPart}
use Rattle.closed_terms.proofs.Whole.{main_is, part_program}
use Rattle.closed_terms.proofs.parts.part.Goals as goal

pub new-requires : goal.new-requires
new-requires c =
    part_program c.args.program.now c.declared.ensures.program c.args.place c.args.end c.requires c.in_ok-nodes.nodes.items c.in_ok-nodes.ensures.nodes c.in_ok-nodes.ensures.many
    (declarations_of c.in_ok-declared.declared) (c.in_ok-declared.ensures ∙ c.declared.ensures.value)

pub returns : goal.returns
returns c = subst (IsClosedPart c.args.program.now c.args.place) (sym c.in_ok-new.ensures) (record {
  declared = c.in_ok-declared.ensures ∙ c.declared.ensures.value;
  main = main_is c.args.program.now c.declared.ensures.program c.args.place c.args.end c.requires c.in_ok-nodes.nodes.items c.in_ok-nodes.ensures.nodes c.in_ok-nodes.ensures.many;
})
