use Rattle.std.proofs.Common.{subst}
use Rattle.firing_core.specs.Entries.{UnlinkEdit}
use Rattle.firing_core.specs.Cores.{Edits}
use Rattle.firing_core.specs.CoreViews.{CoreValue, core_of, program_of}
use Rattle.firing_core.specs.contracts.cores.Core.{the_view}
use Rattle.firing_core.proofs.CoreEdits.{with_net, unlinked_edit}
use Rattle.firing_core.proofs.cores.Core.unlink.Goals as goal

pub invariant_of-self-2 : goal.invariant_of-self-2
invariant_of-self-2 c = (unlinked_edit (the_view c.self.inside) c.unlink.new.self c.args.a c.args.b c.self.invariant c.in_default.ensures.ok c.in_default.ensures.accepted).kept

pub returns-clause-ok : goal.returns-clause-ok
returns-clause-ok c =
    subst (λ (v : CoreValue). Edits (program_of v) (core_of v) (UnlinkEdit c.args.a c.args.b) (core_of (with_net (the_view c.self.inside) c.unlink.new.self))) c.self.view_is
    (unlinked_edit (the_view c.self.inside) c.unlink.new.self c.args.a c.args.b c.self.invariant c.in_default.ensures.ok c.in_default.ensures.accepted).edits
