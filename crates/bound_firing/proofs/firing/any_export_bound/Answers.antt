use Rattle.std.proofs.Common.{◌∙◌, sym, ap}
use Rattle.fc_values.specs.Types.{Declarations}
use Rattle.fc_values.specs.BuiltinTypes.{inner}
use Rattle.fc_nodes.specs.Program.{unfolding_of}
use Rattle.fc_nodes.specs.Terms.{term_at}
use Rattle.bound_firing.proofs.RootAt.{root_type, any_is, kept_slots}
use Rattle.bound_firing.proofs.firing.any_export_bound.Goals as goal

pub returns-clause-bound : goal.returns-clause-bound
returns-clause-bound c =
    let t = root_type c.args.program.now c.declared.ensures.program _ _ _ c.node-root.ensures.node in
    any_is (unfolding_of c.args.program.now) _ _ _ _ (ap (λ (d : Declarations). d.ceiling) c.declared.ensures.value)
    c.in_ok-value.ensures (c.inner.ensures ∙ ap inner (sym t)) c.in_ok-slots.ensures

pub returns-clause-slots : goal.returns-clause-slots
returns-clause-slots c = kept_slots _ (term_at c.args.program.now.nodes 0) c.in_ok-slots.slots.items
    c.in_ok-slots.ensures
