use Rattle.std.proofs.Common.{◌∙◌, sym, subst, ap}
use Rattle.fc_values.specs.Values.{local_of}
use Rattle.topology.specs.Changes.{set_fault, with_input}
use Rattle.firing_core.specs.Entries.{SetEdit}
use Rattle.firing_core.specs.Cores.{Edits}
use Rattle.firing_core.specs.CoreViews.{CoreValue, core_of, program_of}
use Rattle.firing_core.specs.contracts.cores.Core.{the_view}
use Rattle.firing_core.proofs.CoreEdits.{with_net, set_edit, pair_never}
use Rattle.firing_core.proofs.cores.Core.set.Goals as goal

pub returns-in_default-copy_plain-clause-refused : goal.returns-in_default-copy_plain-clause-refused
returns-in_default-copy_plain-clause-refused c =
    absurd (pair_never (the_view c.self.inside).net c.args.device c.args.input (local_of c.args.value.now) c.in_default-copy_plain.ensures.pair (sym c.set_fault.ensures ∙ c.in_default.is))

pub invariant_of-self-2 : goal.invariant_of-self-2
invariant_of-self-2 c =
    (set_edit (the_view c.self.inside) c.set_input.new.self c.args.device c.args.input (local_of c.args.value.now) c.self.invariant
    (c.in_default-set_input.ensures.ok ∙ ap (λ x. with_input (the_view c.self.inside).net c.args.device c.args.input x) c.in-Some-copy_plain.ensures.same)
    (sym (ap (λ x. set_fault (the_view c.self.inside).net c.args.device c.args.input x) c.in-Some-copy_plain.ensures.same) ∙ c.in_default-set_input.ensures.accepted)).kept

pub returns-clause-ok : goal.returns-clause-ok
returns-clause-ok c =
    subst (λ (v : CoreValue). Edits (program_of v) (core_of v) (SetEdit c.args.device c.args.input (local_of c.args.value.now)) (core_of (with_net (the_view c.self.inside) c.set_input.new.self))) c.self.view_is
    (set_edit (the_view c.self.inside) c.set_input.new.self c.args.device c.args.input (local_of c.args.value.now) c.self.invariant
    (c.in_default-set_input.ensures.ok ∙ ap (λ x. with_input (the_view c.self.inside).net c.args.device c.args.input x) c.in-Some-copy_plain.ensures.same)
    (sym (ap (λ x. set_fault (the_view c.self.inside).net c.args.device c.args.input x) c.in-Some-copy_plain.ensures.same) ∙ c.in_default-set_input.ensures.accepted)).edits
