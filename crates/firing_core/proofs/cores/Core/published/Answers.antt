use Rattle.std.proofs.Common.{◌≡◌, ◌∙◌, sym, subst}
use Rattle.std.specs.Prelude.{option_map, IfSome}
use Rattle.value_trees.specs.Snaps.{tree_of, IsExportOf}
use Rattle.firing_core.specs.CoreViews.{CoreValue, core_of, program_of}
use Rattle.firing_core.proofs.Slots.{slot_none}
use Rattle.firing_core.proofs.CoreSteps.{export_at, export_within, export_kept}
use Rattle.firing_core.proofs.Borrowed.{no_value, read_value, where_read}
use Rattle.firing_core.specs.contracts.cores.Core.{the_view}
use Rattle.firing_core.proofs.cores.Core.published.Goals as goal

pub returns-in_err-place-clause-value : goal.returns-in_err-place-clause-value
returns-in_err-place-clause-value c =
    subst (λ (v : CoreValue). option_map (λ e. tree_of (program_of v) e.now) c.from_residual.result ≡ (core_of v).exports c.args.device) c.self.view_is
    (no_value (tree_of (program_of (the_view c.self.inside))) c.from_residual.result c.from_residual.ensures ∙ sym (slot_none _ _ c.args.device c.in_err-place.ensures.none))

pub returns-clause-value : goal.returns-clause-value
returns-clause-value c =
    subst (λ (v : CoreValue). option_map (λ e. tree_of (program_of v) e.now) c.as_ref.result ≡ (core_of v).exports c.args.device) c.self.view_is
    (read_value _ c.as_ref.result _ c.as_ref.ensures.value ∙ sym (export_at _ c.self.invariant c.in_ok-place.place c.args.device c.in_ok-place.ensures.within c.in_ok-place.ensures.there _ c.index.ensures))

pub returns-clause-export : goal.returns-clause-export
returns-clause-export c =
    let w = export_within _ c.self.invariant c.in_ok-place.place c.args.device c.in_ok-place.ensures.within c.in_ok-place.ensures.there in
    subst (λ (v : CoreValue). IfSome c.as_ref.result (λ e. IsExportOf (program_of v) e.now)) c.self.view_is
    (where_read (IsExportOf (program_of (the_view c.self.inside))) c.as_ref.result _ c.as_ref.ensures.value (export_kept _ c.self.inside.exports.items c.in_ok-place.place _ c.self.invariant.exports w c.index.ensures))

pub returns-in_err-place-clause-export : goal.returns-in_err-place-clause-export
returns-in_err-place-clause-export c = subst (λ r. IfSome r (λ e. IsExportOf (program_of c.args.self.now) e.now)) (sym c.from_residual.ensures) tt
