use Rattle.std.proofs.Common.{◌∙◌, sym, ap, subst}
use Rattle.fc_nodes.specs.Program.{Program, unfolding_of}
use Rattle.firing_core.specs.Starts.{IsTable, IsPending, started}
use Rattle.firing_core.proofs.Starting.{started_kept, started_core}
use Rattle.firing_core.proofs.cores.Core.new.Goals as goal

pub invariant_of-result : goal.invariant_of-result
invariant_of-result c =
    let p = c.in_ok-program.ensures.cases in
    started_kept c.in_ok-program.program.value c.args.net c.args.table.items c.args.pending.items c.in_ok-exports.exports.items c.in_ok-flying.flying.items
    c.in_ok-exports.ensures.network c.in_ok-exports.ensures.many c.in_ok-flying.ensures.many c.in_ok-exports.ensures.slots c.in_ok-flying.ensures.slots
    (c.requires.declared ∙ ap (λ (q : Program). q.declared) (sym p))
    (subst (λ (q : Program). IsTable (unfolding_of q) c.args.net c.args.table.items) (sym p) c.requires.table)
    (subst (λ (q : Program). IsPending (unfolding_of q) c.args.net c.args.pending.items) (sym p) c.requires.pending)

pub returns-clause-core : goal.returns-clause-core
returns-clause-core c =
    started_core c.in_ok-program.program.value c.args.net c.args.table.items c.args.pending.items c.in_ok-exports.exports.items c.in_ok-flying.flying.items
    c.in_ok-exports.ensures.network c.in_ok-exports.ensures.many c.in_ok-flying.ensures.many c.in_ok-exports.ensures.slots c.in_ok-flying.ensures.slots
    ∙ ap (λ (q : Program). started (unfolding_of q) c.args.net c.args.table.items c.args.pending.items) c.in_ok-program.ensures.cases
