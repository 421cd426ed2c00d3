use Rattle.std.proofs.Common.{◌≡◌, ◌∙◌, sym, ap, subst, option_map}
use Rattle.fc_nodes.specs.Program.{Program, unfolding_of}
use Rattle.value_trees.specs.Snaps.{tree_of, snap_copy}
use Rattle.firing_core.specs.CoreViews.{core_of}
use Rattle.bound_firing.specs.ExportReferences.{export_bound_in}
use Rattle.settle_rounds.specs.References.{StateBound}
use Rattle.settle_rounds.proofs.States.{has_some, has_bound}
use Rattle.settle_rounds.proofs.starts.standing_bound.Goals as goal

pub state_bound-requires-clause-some : goal.state_bound-requires-clause-some
state_bound-requires-clause-some c p q =
    let t = c.in_ok-take_off.ensures in
    has_some c.args.core.now.net (core_of c.args.core.now) (core_of c.take_off.new.core) c.args.device t.same.exports
    t.state (sym c.export.ensures.value ∙ ap (option_map _) p) (sym c.flying.ensures.value ∙ ap (option_map _) q)

pub returns-clause-bound : goal.returns-clause-bound
returns-clause-bound c e sure =
    let t = c.in_ok-take_off.ensures in
    let b = c.in_ok-bound.bound in
    let old = c.args.core.now in
    let new = c.take_off.new.core in
    let same : new.program ≡ old.program = t.same.same.program in
    let read : c.deref.result.now ≡ new.program = c.deref.ensures ∙ c.program.ensures.value in
    let s = c.args.sure in
    let h = subst (λ (P : Program). StateBound (unfolding_of P) s (option_map (λ e. tree_of (unfolding_of P) e.now)
    c.export.result) (option_map (λ s. snap_copy (unfolding_of P) s.now) c.flying.result)
    (export_bound_in (unfolding_of P) b)) read c.in_ok-bound.ensures.bound in
    let g = subst (λ o. StateBound (unfolding_of new.program) s o ((core_of new).flying c.args.device)
    (export_bound_in (unfolding_of new.program) b)) c.export.ensures.value
    (subst (λ o. StateBound (unfolding_of new.program) s (option_map (λ e. tree_of (unfolding_of new.program) e.now)
    c.export.result) o (export_bound_in (unfolding_of new.program) b)) c.flying.ensures.value h) in
    let f = subst (λ (P : Program). StateBound (unfolding_of P) s ((core_of new).exports c.args.device)
    ((core_of new).flying c.args.device) (export_bound_in (unfolding_of P) b)) same g in
    has_bound old.net (core_of old) (core_of new) c.args.device t.same.exports (unfolding_of old.program) e
    (export_bound_in (unfolding_of old.program) b) c.requires t.state
    (subst (λ q. StateBound (unfolding_of old.program) q ((core_of new).exports c.args.device)
    ((core_of new).flying c.args.device) (export_bound_in (unfolding_of old.program) b)) (sym sure) f)
