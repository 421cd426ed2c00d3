use Rattle.std.proofs.Common.{sym, subst}
use Rattle.fc_values.specs.Exports.{export_of}
use Rattle.fc_nodes.specs.Flat.{IsExport}
use Rattle.firing_core.specs.Entries.{PokeEdit}
use Rattle.firing_core.specs.Cores.{Edits}
use Rattle.firing_core.specs.CoreViews.{CoreValue, core_of, program_of}
use Rattle.firing_core.specs.contracts.cores.Core.{the_view}
use Rattle.firing_core.proofs.CoreEdits.{poked_core, poked_kept, poke_allowed, with_poke}
use Rattle.firing_core.proofs.cores.Core.poke.Goals as goal

pub invariant_of-self : goal.invariant_of-self
invariant_of-self c =
    poked_kept (the_view c.self.inside) c.self.invariant c.in-Some.place c.args.device c.in-Some.ensures.within c.in-Some.ensures.there c.in-Some.ensures.lives
    c.in-Ok.published (export_of c.args.export.now) c.in-Ok.ensures (subst (λ (v : CoreValue). IsExport (program_of v) (export_of c.args.export.now)) (sym c.self.view_is) c.requires)

pub returns-clause-ok : goal.returns-clause-ok
returns-clause-ok c =
    subst (λ (v : CoreValue). Edits (program_of v) (core_of v) (PokeEdit c.args.device (export_of c.args.export.now))
    (core_of (with_poke (the_view c.self.inside) c.self.invariant c.in-Some.place c.args.device c.in-Some.ensures.within c.in-Some.ensures.there c.in-Some.ensures.lives c.in-Ok.published))) c.self.view_is
    (record {
      fits = subst (λ (v : CoreValue). IsExport (program_of v) (export_of c.args.export.now)) (sym c.self.view_is) c.requires;
      allowed = poke_allowed (the_view c.self.inside) c.args.device (export_of c.args.export.now) c.in-Some.ensures.lives;
      after = poked_core (the_view c.self.inside) c.self.invariant c.in-Some.place c.args.device c.in-Some.ensures.within c.in-Some.ensures.there c.in-Some.ensures.lives c.in-Ok.published (export_of c.args.export.now) c.in-Ok.ensures;
    })
