use Rattle.std.proofs.Common.{◌∙◌, sym, ap, arith, ◌+◌}
use Rattle.fc_values.specs.BuiltinTypes.{inner}
use Rattle.fc_values.specs.Types.{Declarations, local_type_of, type_of}
use Rattle.fc_nodes.specs.Program.{unfolding_of}
use Rattle.growth_facts.specs.Leads.{least_integer, greatest_integer}
use Rattle.fc_nodes.proofs.Standing.{each_stands}
use Rattle.interval_facts.proofs.Lengths.{place_there}
use Rattle.round_bound.specs.Walks.{greatest_full}
use Rattle.round_bound.proofs.Potentials.{past_range, let_range, let_within, evolve_range, other_range, full_greatest, full_least, range_behind}
use Rattle.round_bound.proofs.added.potential_ends.Goals as goal

pub returns-then-place-size-clause-least : goal.returns-then-place-size-clause-least
returns-then-place-size-clause-least c =
    let w = c.if-place-size.true in
    let v = c.size.ensures.value in
    sym (ap least_integer (past_range c.args.context.now.program.now c.size.ensures.program.formed c.args.place (omega (arith, w, v))))

pub returns-then-place-size-clause-greatest : goal.returns-then-place-size-clause-greatest
returns-then-place-size-clause-greatest c =
    let w = c.if-place-size.true in
    let v = c.size.ensures.value in
    ap (λ (D : Declarations). D.ceiling) c.declared.ensures.value ∙ sym (ap greatest_integer (past_range c.args.context.now.program.now c.size.ensures.program.formed c.args.place (omega (arith, w, v))))

pub at-range-requires : goal.at-range-requires
at-range-requires c =
    let l = let_within c.args.context.now.program.now c.node-node.ensures.program.formed c.args.place (each_stands c.args.context.now.program.now.nodes c.node-node.ensures.program.formed c.args.place (let w = c.if-place-size.false in let v = c.size.ensures.value in omega (arith, w, v))) _ _ _ c.node-node.ensures.node (sym c.is_let.ensures ∙ c.if-is_let.true) in
    place_there c.args.context.now.program.now c.node-node.ensures.program c.args.context.now.ranges.now c.requires (c.args.place + 1) (omega (arith, l))

pub returns-then-is_let-clause-least : goal.returns-then-is_let-clause-least
returns-then-is_let-clause-least c =
    c.least_integer.ensures ∙ ap least_integer (range_behind (unfolding_of c.args.context.now.program.now) c.args.context.now.ranges.now c.requires c.args.place _ c.at-range.ensures ∙ sym (let_range c.args.context.now.program.now c.node-node.ensures.program.formed c.args.place (each_stands c.args.context.now.program.now.nodes c.node-node.ensures.program.formed c.args.place (let w = c.if-place-size.false in let v = c.size.ensures.value in omega (arith, w, v))) _ _ _ c.node-node.ensures.node (sym c.is_let.ensures ∙ c.if-is_let.true)))

pub returns-then-is_let-clause-greatest : goal.returns-then-is_let-clause-greatest
returns-then-is_let-clause-greatest c =
    c.greatest_integer.ensures ∙ ap greatest_integer (range_behind (unfolding_of c.args.context.now.program.now) c.args.context.now.ranges.now c.requires c.args.place _ c.at-range.ensures ∙ sym (let_range c.args.context.now.program.now c.node-node.ensures.program.formed c.args.place (each_stands c.args.context.now.program.now.nodes c.node-node.ensures.program.formed c.args.place (let w = c.if-place-size.false in let v = c.size.ensures.value in omega (arith, w, v))) _ _ _ c.node-node.ensures.node (sym c.is_let.ensures ∙ c.if-is_let.true)))

pub returns-then-is_evolving-clause-least : goal.returns-then-is_evolving-clause-least
returns-then-is_evolving-clause-least c =
    full_least c.args.context.now.program.now.declared.ceiling (inner (type_of c.node-node.result.now.ty)) ∙ sym (ap least_integer (evolve_range c.args.context.now.program.now c.node-node.ensures.program.formed c.args.place (each_stands c.args.context.now.program.now.nodes c.node-node.ensures.program.formed c.args.place (let w = c.if-place-size.false in let v = c.size.ensures.value in omega (arith, w, v))) _ _ _ c.node-node.ensures.node (sym c.is_evolving.ensures ∙ c.if-is_evolving.true)))

pub returns-then-is_evolving-clause-greatest : goal.returns-then-is_evolving-clause-greatest
returns-then-is_evolving-clause-greatest c =
    c.full_greatest.ensures ∙ ap (λ m. greatest_full m (local_type_of c.inner.result.now)) (ap (λ (D : Declarations). D.ceiling) c.declared.ensures.value) ∙ ap (greatest_full c.args.context.now.program.now.declared.ceiling) c.inner.ensures
    ∙ full_greatest c.args.context.now.program.now.declared.ceiling (inner (type_of c.node-node.result.now.ty)) ∙ sym (ap greatest_integer (evolve_range c.args.context.now.program.now c.node-node.ensures.program.formed c.args.place (each_stands c.args.context.now.program.now.nodes c.node-node.ensures.program.formed c.args.place (let w = c.if-place-size.false in let v = c.size.ensures.value in omega (arith, w, v))) _ _ _ c.node-node.ensures.node (sym c.is_evolving.ensures ∙ c.if-is_evolving.true)))

pub returns-clause-least : goal.returns-clause-least
returns-clause-least c = sym (ap least_integer (other_range c.args.context.now.program.now c.node-node.ensures.program.formed c.args.place (each_stands c.args.context.now.program.now.nodes c.node-node.ensures.program.formed c.args.place (let w = c.if-place-size.false in let v = c.size.ensures.value in omega (arith, w, v))) _ _ _ c.node-node.ensures.node (sym c.is_let.ensures ∙ c.if-is_let.false) (sym c.is_evolving.ensures ∙ c.if-is_evolving.false)))

pub returns-clause-greatest : goal.returns-clause-greatest
returns-clause-greatest c = ap (λ (D : Declarations). D.ceiling) c.declared.ensures.value ∙ sym (ap greatest_integer (other_range c.args.context.now.program.now c.node-node.ensures.program.formed c.args.place (each_stands c.args.context.now.program.now.nodes c.node-node.ensures.program.formed c.args.place (let w = c.if-place-size.false in let v = c.size.ensures.value in omega (arith, w, v))) _ _ _ c.node-node.ensures.node (sym c.is_let.ensures ∙ c.if-is_let.false) (sym c.is_evolving.ensures ∙ c.if-is_evolving.false)))
